use Rattle.std.proofs.Common.{◌≡◌, ◌++◌, drop, map}
use Rattle.nc_engine.specs.Work.{nodes_each}
use Rattle.nc_engine.proofs.suites.nodes_of_each.Given as goal

-- the nodes so far and those of the tests that are left are all nodes
abbrev pub invariant-tests : goal.invariant-tests
invariant-tests l = map (λ ns. ns.now) l.nodes.items ++ nodes_each (drop l.test-index l.tests) ≡ nodes_each l.tests
