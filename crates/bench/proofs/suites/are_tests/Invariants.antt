use Rattle.std.proofs.Common.{◌<◌, length, take, All}
use Rattle.bench.proofs.suites.are_tests.Given as goal

-- the tests so far are of nodes of the graph
abbrev pub invariant-tests : goal.invariant-tests
invariant-tests l = All (λ t. All (λ p. p.0 < length l.graph.facts) t.now) (take l.nodes-index l.tests)
