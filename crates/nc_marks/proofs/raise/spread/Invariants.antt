use Rattle.std.proofs.Common.{◌≡◌, ◌+◌, ◌-◌, ◌≤◌, ℕ, List, true, length, drop, All}
use Rattle.nc_graph.specs.Nodes.{node_flow}
use Rattle.nc_marks.specs.Sets.{flag}
use Rattle.nc_marks.specs.Reach.{IsOpenAt, IsReached, Raises, lowered}
use Rattle.nc_marks.proofs.raise.spread.Given as goal

abbrev pub invariant-waiting : goal.invariant-waiting
invariant-waiting g l = record {
  raises : Raises l.initial.raised.items l.raised.items l.initial.reached.items l.reached.items;
  flagged : All (λ p. flag l.reached.items p.0 ≡ true) l.raised.items;
  few : l.at ≤ length l.raised.items;
  opened : IsOpenAt (node_flow l.graph) l.initial.raised.items l.initial.reached.items → IsOpenAt (node_flow l.graph) (drop l.at l.raised.items) l.reached.items;
  within : (e : ℕ) (tops : List ℕ) → IsReached (node_flow l.graph) e tops l.initial.reached.items → IsReached (node_flow l.graph) e tops l.reached.items;
}

abbrev pub decreases-waiting : goal.decreases-waiting
decreases-waiting g l = (length l.raised.items + lowered l.reached.items) - l.at
