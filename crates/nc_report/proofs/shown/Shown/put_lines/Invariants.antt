use Rattle.std.proofs.Common.{◌+◌, ◌&&◌, ℕ, Bool, not, nat_eq, take}
use Rattle.nc_marks.specs.Sets.{has}
use Rattle.nc_report.specs.Shown.{AreFreshBut}
use Rattle.nc_report.proofs.shown.Shown.put_lines.Given as goal

abbrev pub invariant-lines : goal.invariant-lines
invariant-lines l = (due : ℕ → ℕ → Bool) → AreFreshBut l.network l.marks due l.initial.self
    → AreFreshBut l.network l.marks (λ r k. due r k && not (nat_eq r l.router.0 && has (take l.line-index l.lines) (k + 1))) l.self
