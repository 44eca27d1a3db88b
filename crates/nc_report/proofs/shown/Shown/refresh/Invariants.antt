use Rattle.std.proofs.Common.{◌≡◌, ◌+◌, drop}
use Rattle.nc_types.specs.Network.{element_count, owner_at}
use Rattle.nc_marks.specs.Kept.{TouchesOnly}
use Rattle.nc_marks.specs.Marks.{ElementMarks, marked_elements}
use Rattle.nc_report.specs.Sheets.{sheets_from}
use Rattle.nc_report.specs.Shown.{AreFreshBut, is_owned}
use Rattle.nc_report.proofs.shown.Shown.refresh.Given as goal

-- the lines of the elements that are left are due
abbrev pub invariant-touched : goal.invariant-touched
invariant-touched l = (before : ElementMarks) → marked_elements before ≡ element_count l.network → TouchesOnly l.touched before l.marks
    → l.initial.self ≡ sheets_from l.network before 0 l.network
    → AreFreshBut l.network l.marks (λ r k. is_owned (drop l.element-index l.touched) (owner_at l.network r (k + 1))) l.self
