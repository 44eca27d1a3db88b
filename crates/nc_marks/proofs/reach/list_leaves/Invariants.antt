use Rattle.std.proofs.Common.{take}
use Rattle.nc_graph.specs.Nodes.{node_flow}
use Rattle.nc_marks.specs.Reach.{leaf_in}
use Rattle.nc_marks.specs.Sets.{Lists}
use Rattle.nc_marks.proofs.reach.list_leaves.Given as goal

abbrev pub invariant-nodes : goal.invariant-nodes
invariant-nodes g l = Lists l.flags (λ e. leaf_in (node_flow l.graph) e (take l.node-index l.nodes)) l.initial.list.items l.list.items
