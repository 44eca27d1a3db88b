use Rattle.std.proofs.Common.{◌≡◌, ◌++◌, drop}
use Rattle.nc_engine.specs.Work.{nodes_in}
use Rattle.nc_engine.proofs.forgetting.live_nodes.Given as goal

-- the nodes so far and those of the tests that are left are all nodes
abbrev pub invariant-tests : goal.invariant-tests
invariant-tests l = l.nodes.items ++ nodes_in (drop l.test-index l.tests) ≡ nodes_in l.tests
