use Rattle.std.proofs.Common.{◌≡◌, ◌≤◌, ◌<◌, ℕ, [], ◌∷◌, get_or, length, if◌then◌else◌}
use Rattle.nc_marks.specs.Sets.{flag, has, has_at}
use Rattle.nc_marks.proofs.sets.Sets.flag.Given as goal

abbrev pub invariant-parts : goal.invariant-parts
invariant-parts l = record {
  within : l.tail ≤ length l.self.sets;
  len : length l.flags ≡ length l.initial.flags;
  flags : (e : ℕ) → e < length l.initial.flags → (if has (get_or ([] ∷ l.self.sets) l.tail []) e then l.value else flag l.flags e)
      ≡ (if has_at l.self l.place e then l.value else flag l.initial.flags e);
}

abbrev pub decreases-parts : goal.decreases-parts
decreases-parts l = l.tail
