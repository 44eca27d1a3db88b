use Rattle.std.proofs.Common.{◌≡◌, ◌≤◌, true, map}
use Rattle.nc_marks.specs.Sets.{flag}
use Rattle.nc_suite.specs.Dead.{Misses}
use Rattle.nc_suite.proofs.unmet.elements_lowered.Given as goal

abbrev pub invariant-elements : goal.invariant-elements
invariant-elements l = record {
  within : l.element ≤ l.elements;
  misses : Misses (λ e. flag l.flags e ≡ true) l.element (map (λ id. id.0) l.listed.items);
}
