use Rattle.std.proofs.Common.{◌≡◌, ◌≤◌, ℕ, List, true, length}
use Rattle.nc_graph.specs.Nodes.{node_flow}
use Rattle.nc_marks.specs.Reach.{IsReached, IsClosed}
use Rattle.nc_marks.specs.Sets.{flag}
use Rattle.nc_marks.proofs.reach.descend.Given as goal

abbrev pub invariant-nodes : goal.invariant-nodes
invariant-nodes g l = record {
  few : l.number ≤ length l.graph.facts;
  kept : (i : ℕ) → flag l.initial.reached i ≡ true → flag l.reached i ≡ true;
  closed : IsClosed (node_flow l.graph) l.number l.reached;
  within : (e : ℕ) (tops : List ℕ) → IsReached (node_flow l.graph) e tops l.initial.reached → IsReached (node_flow l.graph) e tops l.reached;
}

abbrev pub decreases-nodes : goal.decreases-nodes
decreases-nodes g l = l.number
