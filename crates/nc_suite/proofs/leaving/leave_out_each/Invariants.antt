use Rattle.std.proofs.Common.{◌≡◌, ◌≤◌, ℕ, List, false, length, map, reverse}
use Rattle.nc_graph.specs.Nodes.{node_flow}
use Rattle.nc_marks.specs.Marks.{marked_elements}
use Rattle.nc_marks.specs.Sets.{flag}
use Rattle.nc_suite.specs.Counts.{AreCounts, HasRoom}
use Rattle.nc_suite.specs.Suite.{Leaves, IsSuite, still}
use Rattle.nc_suite.proofs.leaving.leave_out_each.Given as goal

abbrev pub invariant-turns : goal.invariant-turns
invariant-turns g l = record {
  within : l.turn ≤ length l.tests;
  width : l.coverage.listing.width ≡ marked_elements l.marks.marks;
  len : length l.coverage.reached.items ≡ length l.graph.facts;
  lowered : (i : ℕ) → flag l.coverage.reached.items i ≡ false;
  counts : AreCounts (node_flow l.graph) (marked_elements l.marks.marks) (still (map (λ t. map (λ p. p.0) t.now) l.tests) l.turn (reverse l.places.items)) l.tally;
  room : HasRoom l.tally;
  leaves : (suite : List ℕ) → Leaves (node_flow l.graph) (marked_elements l.marks.marks) (map (λ t. map (λ p. p.0) t.now) l.tests) l.turn (reverse l.places.items) suite
      → IsSuite (node_flow l.graph) (marked_elements l.marks.marks) (map (λ t. map (λ p. p.0) t.now) l.tests) suite;
}

abbrev pub decreases-turns : goal.decreases-turns
decreases-turns g l = l.turn
