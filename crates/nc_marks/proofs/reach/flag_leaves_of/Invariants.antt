use Rattle.std.proofs.Common.{◌≡◌, ◌||◌, ◌<◌, ℕ, length, take}
use Rattle.nc_graph.specs.Nodes.{node_flow}
use Rattle.nc_marks.specs.Reach.{leaf_in}
use Rattle.nc_marks.specs.Sets.{flag}
use Rattle.nc_marks.proofs.reach.flag_leaves_of.Given as goal

abbrev pub invariant-nodes : goal.invariant-nodes
invariant-nodes g l = (e : ℕ) → e < length l.initial.flags → flag l.flags e ≡ (leaf_in (node_flow l.graph) e (take l.node-index l.nodes) || flag l.initial.flags e)
