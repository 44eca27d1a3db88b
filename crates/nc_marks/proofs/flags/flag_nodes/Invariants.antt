use Rattle.std.proofs.Common.{◌≡◌, ◌||◌, ℕ, take}
use Rattle.nc_marks.specs.Sets.{has_node, flag}
use Rattle.nc_marks.proofs.flags.flag_nodes.Given as goal

abbrev pub invariant-nodes : goal.invariant-nodes
invariant-nodes l = (i : ℕ) → flag l.flags i ≡ (has_node (take l.node-index l.nodes) i || flag l.initial.flags i)
