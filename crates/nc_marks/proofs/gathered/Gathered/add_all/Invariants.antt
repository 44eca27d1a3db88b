use Rattle.std.proofs.Common.{◌≡◌, ◌||◌, ◌<◌, ℕ, take}
use Rattle.nc_marks.specs.Sets.{has}
use Rattle.nc_marks.proofs.gathered.Gathered.add_all.Given as goal

abbrev pub invariant-elements : goal.invariant-elements
invariant-elements l = record {
  width : l.self.width ≡ l.initial.self.width;
  union : (e : ℕ) → e < l.initial.self.width → has l.self.elements e ≡ (has l.initial.self.elements e || has (take l.element-index l.set) e);
}
