use Rattle.std.proofs.Common.{arith, sym, subst, ◌<◌}
use Rattle.nc_suite.proofs.CountLemmas.{adds-one}
use Rattle.nc_suite.proofs.TallyLemmas.{at, inside, counts-stay, among-next, touches-taken}
use Rattle.nc_suite.specs.Counts.{counted}
use Rattle.nc_suite.proofs.tally.Tally.take_touches.Goals as goal

pub lower-requires-clause-strong : goal.lower-requires-clause-strong
lower-requires-clause-strong c =
    let ts = c.args.touches.now in
    let i = c.touches.touch-index in
    let a = c.args.self.now in
    let within = inside ts i (counted a) c.touches-test.true c.requires.apart in
    let s = (counts-stay ts i (counted a) c.touches-test.true c.requires.apart c.touches.self a (subst (λ n. (at ts i).element < n) c.touches.invariant.elements within) c.touches.invariant).0 in
    let r = (among-next ts i (counted a) c.touches-test.true c.requires.apart a within c.requires.among).0 in
    omega arith

pub lower-requires-clause-covered : goal.lower-requires-clause-covered
lower-requires-clause-covered c =
    let ts = c.args.touches.now in
    let i = c.touches.touch-index in
    let a = c.args.self.now in
    let within = inside ts i (counted a) c.touches-test.true c.requires.apart in
    let s = (counts-stay ts i (counted a) c.touches-test.true c.requires.apart c.touches.self a (subst (λ n. (at ts i).element < n) c.touches.invariant.elements within) c.touches.invariant).1 in
    let r = (among-next ts i (counted a) c.touches-test.true c.requires.apart a within c.requires.among).1 in
    omega arith

pub touches-preserved : goal.touches-preserved
touches-preserved c =
    let ts = c.args.touches.now in
    let i = c.touches.touch-index in
    touches-taken ts i (counted c.args.self.now) c.touches-test.true c.requires.apart c.lower.new.self c.touches.self c.args.self.now
    (adds-one c.lower.new.self c.touches.self (at ts i).element (at ts i).mark (sym c.lower.ensures.elements) c.lower.ensures.strong c.lower.ensures.covered
    (λ e ne. (sym (c.lower.ensures.others e ne).0, sym (c.lower.ensures.others e ne).1))) c.touches.invariant
