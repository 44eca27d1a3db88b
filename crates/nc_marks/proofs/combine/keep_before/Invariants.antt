use Rattle.std.proofs.Common.{◌≡◌, ◌||◌, ◌&&◌, ◌<◌, ℕ, [], ◌∷◌, get_or, take}
use Rattle.nc_marks.specs.Sets.{has, in_each}
use Rattle.nc_marks.proofs.combine.keep_before.Given as goal

abbrev pub invariant-nodes : goal.invariant-nodes
invariant-nodes l = record {
  width : l.gathered.width ≡ l.initial.gathered.width;
  intersection : (e : ℕ) → e < l.initial.gathered.width → (has l.gathered.elements e || has (get_or ([] ∷ l.sets.sets) l.tail []) e)
      ≡ ((has l.initial.gathered.elements e || has (get_or ([] ∷ l.sets.sets) l.tail []) e) && in_each l.sets l.places (take l.node-index l.nodes) e);
}
