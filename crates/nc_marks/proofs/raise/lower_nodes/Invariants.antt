use Rattle.std.proofs.Common.{◌≡◌, ℕ, false, take, length, if◌then◌else◌}
use Rattle.nc_marks.specs.Sets.{has_node, flag}
use Rattle.nc_marks.proofs.raise.lower_nodes.Given as goal

abbrev pub invariant-nodes : goal.invariant-nodes
invariant-nodes l = record {
  len : length l.reached.items ≡ length l.initial.reached.items;
  flags : (i : ℕ) → flag l.reached.items i ≡ (if has_node (take l.node-index l.nodes) i then false else flag l.initial.reached.items i);
}
