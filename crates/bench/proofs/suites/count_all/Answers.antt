use Rattle.std.proofs.Common.{take, arith}
use Rattle.std.proofs.lemmas.List.{length-take-le}
use Rattle.bench.proofs.SumLemmas.{sums-room}
use Rattle.bench.proofs.suites.count_all.Goals as goal

pub add-requires-clause-room : goal.add-requires-clause-room
add-requires-clause-room c =
    let tests = c.args.tests.now in
    let at = c.tests.test-index in
    sums-room 4 (take at tests) c.tests.tally (omega (arith, length-take-le at tests c.tests.auto.test-index-end, c.requires.few, c.tests-test.true)) c.tests.invariant
