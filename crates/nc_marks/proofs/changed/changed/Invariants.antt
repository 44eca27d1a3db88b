use Rattle.std.proofs.Common.{◌≡◌, ◌<◌, ℕ, false, Some, All}
use Rattle.nc_marks.specs.Marks.{mark_of}
use Rattle.nc_marks.specs.Sets.{has}
use Rattle.nc_marks.proofs.changed.changed.Given as goal

abbrev pub invariant-elements : goal.invariant-elements
invariant-elements l = record {
  within : All (λ e. e < l.elements) l.list.items;
  others : (e : ℕ) → e < l.element → has l.list.items e ≡ false → mark_of l.after (Some e) ≡ mark_of l.before (Some e);
}
