use Rattle.std.proofs.Common.{◌≡◌, ◌||◌, ℕ, take}
use Rattle.nc_marks.specs.Sets.{has_node, flag}
use Rattle.nc_marks.specs.Reach.{Raises}
use Rattle.nc_marks.proofs.raise.raise_nodes.Given as goal

abbrev pub invariant-nodes : goal.invariant-nodes
invariant-nodes l = record {
  raises : Raises l.initial.raised.items l.raised.items l.initial.reached.items l.reached.items;
  flags : (i : ℕ) → flag l.reached.items i ≡ (has_node (take l.node-index l.nodes) i || flag l.initial.reached.items i);
}
