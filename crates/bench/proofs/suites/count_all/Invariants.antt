use Rattle.std.proofs.Common.{take}
use Rattle.bench.specs.Sums.{AreSums}
use Rattle.bench.proofs.suites.count_all.Given as goal

-- the tests so far are counted
abbrev pub invariant-tests : goal.invariant-tests
invariant-tests l = AreSums 4 (take l.test-index l.tests) l.tally
