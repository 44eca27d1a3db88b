use Rattle.std.proofs.Common.{◌≡◌, ◌<◌, ℕ, length, true}
use Rattle.nc_marks.specs.Sets.{has_at, in_each}
use Rattle.nc_marks.proofs.combine.smallest.Given as goal

abbrev pub invariant-nodes : goal.invariant-nodes
invariant-nodes l = record {
  placed : l.smallest < length l.sets.sets;
  whole : (e : ℕ) → in_each l.sets l.places l.nodes e ≡ true → has_at l.sets l.smallest e ≡ true;
}
