use Rattle.bench.proofs.SumLemmas.{AreCounted}
use Rattle.bench.proofs.suites.leave_out_each.Given as goal

abbrev pub invariant-turns : goal.invariant-turns
invariant-turns l = AreCounted l.left.items l.tally
