use Rattle.std.proofs.Common.{List, [], ◌++◌, drop, map}
use Rattle.nc_graph.specs.declared.node.NodeId.{NodeId}
use Rattle.nc_suite.specs.Repeats.{AreLeft}
use Rattle.nc_suite.proofs.repeats.without_repeats.Given as goal

-- what is left so far, with what will be left of the others, is what is left of all
abbrev pub invariant-tests : goal.invariant-tests
invariant-tests l = (rest : List (List NodeId)) → AreLeft (map (λ t. t.now) l.left.items) (map (λ t. t.now) (drop l.nodes-index l.tests)) rest
    → AreLeft [] (map (λ t. t.now) l.tests) (map (λ t. t.now) l.left.items ++ rest)
