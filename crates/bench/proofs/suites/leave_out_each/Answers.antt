use Rattle.std.proofs.Common.{[], sym, subst, append-nil}
use Rattle.bench.specs.Sums.{AreSums}
use Rattle.bench.proofs.SumLemmas.{AreCounted, sums-room, last-elements, last-among, next-counted}
use Rattle.bench.proofs.suites.leave_out_each.Goals as goal

pub turns-init : goal.turns-init
turns-init c =
    let tests = c.args.left.now.items in
    let tally = c.args.tally.now in
    ([], subst (λ ks. AreSums 4 ks tally) (sym (append-nil tests)) c.requires.counted, sums-room 4 tests tally c.requires.few c.requires.counted, c.requires.marked)

pub leaves_out-spare-requires-clause-elements : goal.leaves_out-spare-requires-clause-elements
leaves_out-spare-requires-clause-elements c =
    last-elements c.pop.new.self.items c.in-Some.test c.turns.tally (subst (λ ks. AreCounted ks c.turns.tally) c.in-Some.ensures.items c.turns.invariant)

pub leaves_out-spare-requires-clause-among : goal.leaves_out-spare-requires-clause-among
leaves_out-spare-requires-clause-among c =
    last-among c.pop.new.self.items c.in-Some.test c.turns.tally (subst (λ ks. AreCounted ks c.turns.tally) c.in-Some.ensures.items c.turns.invariant)

pub turns-preserved : goal.turns-preserved
turns-preserved c =
    next-counted c.pop.new.self.items c.in-Some.test c.turns.tally (subst (λ ks. AreCounted ks c.turns.tally) c.in-Some.ensures.items c.turns.invariant)
    c.leaves_out-spare.result c.leaves_out-spare.new.tally c.leaves_out-spare.ensures.takes c.leaves_out-spare.ensures.stays
