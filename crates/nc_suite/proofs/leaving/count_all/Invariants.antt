use Rattle.std.proofs.Common.{◌≡◌, map, take}
use Rattle.nc_graph.specs.Nodes.{node_flow}
use Rattle.nc_suite.specs.Counts.{AreCounts}
use Rattle.nc_suite.proofs.leaving.count_all.Given as goal

abbrev pub invariant-tests : goal.invariant-tests
invariant-tests g l = record {
  reached : l.coverage.reached.items ≡ l.initial.coverage.reached.items;
  width : l.coverage.listing.width ≡ l.initial.coverage.listing.width;
  counts : AreCounts (node_flow l.graph) l.initial.coverage.listing.width (map (λ t. map (λ p. p.0) t.now) (take l.nodes-index l.tests)) l.tally;
}
