use Rattle.std.proofs.Common.{arith}
use Rattle.nc_suite.proofs.CountLemmas.{adds-one}
use Rattle.nc_suite.proofs.TallyLemmas.{at, inside, counts-stay, touches-added}
use Rattle.nc_suite.specs.Counts.{counted}
use Rattle.nc_suite.proofs.tally.Tally.add_touches.Goals as goal

pub raise-requires-clause-strong : goal.raise-requires-clause-strong
raise-requires-clause-strong c =
    let ts = c.args.touches.now in
    let i = c.touches.touch-index in
    let a = c.args.self.now in
    let within = inside ts i (counted a) c.touches-test.true c.requires.apart in
    let s = (counts-stay ts i (counted a) c.touches-test.true c.requires.apart a c.touches.self within c.touches.invariant).0 in
    let r = c.requires.room.strong (at ts i).element within in
    omega arith

pub raise-requires-clause-covered : goal.raise-requires-clause-covered
raise-requires-clause-covered c =
    let ts = c.args.touches.now in
    let i = c.touches.touch-index in
    let a = c.args.self.now in
    let within = inside ts i (counted a) c.touches-test.true c.requires.apart in
    let s = (counts-stay ts i (counted a) c.touches-test.true c.requires.apart a c.touches.self within c.touches.invariant).1 in
    let r = c.requires.room.covered (at ts i).element within in
    omega arith

pub touches-preserved : goal.touches-preserved
touches-preserved c =
    let ts = c.args.touches.now in
    let i = c.touches.touch-index in
    touches-added ts i (counted c.args.self.now) c.touches-test.true c.requires.apart c.args.self.now c.touches.self c.raise.new.self c.touches.invariant
    (adds-one c.touches.self c.raise.new.self (at ts i).element (at ts i).mark c.raise.ensures.elements c.raise.ensures.strong c.raise.ensures.covered c.raise.ensures.others)
