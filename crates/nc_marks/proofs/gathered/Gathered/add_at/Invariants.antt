use Rattle.std.proofs.Common.{◌≡◌, ◌≤◌, ◌<◌, ◌||◌, ℕ, [], ◌∷◌, get_or, length}
use Rattle.nc_marks.specs.Sets.{has, has_at}
use Rattle.nc_marks.proofs.gathered.Gathered.add_at.Given as goal

abbrev pub invariant-parts : goal.invariant-parts
invariant-parts l = record {
  within : l.tail ≤ length l.sets.sets;
  width : l.self.width ≡ l.initial.self.width;
  union : (e : ℕ) → e < l.initial.self.width → (has l.self.elements e || has (get_or ([] ∷ l.sets.sets) l.tail []) e)
      ≡ (has l.initial.self.elements e || has_at l.sets l.place e);
}

abbrev pub decreases-parts : goal.decreases-parts
decreases-parts l = l.tail
