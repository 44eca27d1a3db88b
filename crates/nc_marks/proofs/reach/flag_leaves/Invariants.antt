use Rattle.std.proofs.Common.{◌<◌, ℕ, length}
use Rattle.nc_graph.specs.Nodes.{node_flow}
use Rattle.nc_marks.specs.Reach.{TellsLeaf}
use Rattle.nc_marks.specs.Sets.{flag}
use Rattle.nc_marks.proofs.reach.flag_leaves.Given as goal

abbrev pub invariant-nodes : goal.invariant-nodes
invariant-nodes g l = (e : ℕ) → e < length l.initial.flags → TellsLeaf (node_flow l.graph) l.reached l.number e (flag l.flags e)
