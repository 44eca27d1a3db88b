use Rattle.std.proofs.Common.{◌≡◌, ◌||◌, ◌<◌, ℕ, take}
use Rattle.nc_marks.specs.Sets.{has, has_at, in_some}
use Rattle.nc_marks.proofs.combine.gather_others.Given as goal

abbrev pub invariant-nodes : goal.invariant-nodes
invariant-nodes l = record {
  width : l.gathered.width ≡ l.initial.gathered.width;
  union : (e : ℕ) → e < l.initial.gathered.width → (has l.gathered.elements e || has_at l.sets l.but e)
      ≡ (has l.initial.gathered.elements e || (in_some l.sets l.places (take l.node-index l.nodes) e || has_at l.sets l.but e));
}
