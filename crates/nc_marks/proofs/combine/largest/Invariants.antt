use Rattle.std.proofs.Common.{◌≡◌, ◌<◌, ℕ, length, true, take}
use Rattle.nc_marks.specs.Sets.{has_at, in_some}
use Rattle.nc_marks.proofs.combine.largest.Given as goal

abbrev pub invariant-nodes : goal.invariant-nodes
invariant-nodes l = record {
  placed : l.largest < length l.sets.sets;
  part : (e : ℕ) → e < l.sets.width → has_at l.sets l.largest e ≡ true → in_some l.sets l.places (take l.node-index l.nodes) e ≡ true;
}
