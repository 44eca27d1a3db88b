use Rattle.std.proofs.Common.{◌≡◌, ◌<◌, ◌≤◌, ◌||◌, ℕ, length}
use Rattle.nc_marks.specs.Needed.{needed}
use Rattle.nc_marks.specs.Sets.{flag}
use Rattle.nc_marks.proofs.by_diagrams.flag_all_needed.Given as goal

abbrev pub invariant-elements : goal.invariant-elements
invariant-elements l = record {
  long : length l.flags ≡ length l.initial.flags;
  done : (e : ℕ) → e < l.element → flag l.flags e ≡ (needed l.store.nodes l.reference e || flag l.initial.flags e);
  left : (e : ℕ) → l.element ≤ e → flag l.flags e ≡ flag l.initial.flags e;
}
