use Rattle.std.proofs.Common.{List, refl, subst}
use Rattle.std.proofs.lemmas.List.{take_all}
use Rattle.nc_suite.proofs.TallyLemmas.{inside, spared-next, spared-more}
use Rattle.nc_suite.specs.declared.touch.Touch.{Touch}
use Rattle.nc_suite.specs.Counts.{counted, mark_in, AreSpared}
use Rattle.nc_suite.proofs.tally.Tally.spare_touches.Goals as goal

pub returns-then-not-spares : goal.returns-then-not-spares
returns-then-not-spares c = (
  λ x. absurd (cc),
  λ all. (let ts = c.args.touches.now in
      let i = c.touches.touch-index in
      let a = c.args.self.now in
      let yes = c.spares.ensures.1 (spared-next ts i (counted a) c.touches-test.true c.requires.apart a (inside ts i (counted a) c.touches-test.true c.requires.apart) all) in
      let no = c.if-not-spares.true in
      absurd (cc)),
)

pub touches-preserved : goal.touches-preserved
touches-preserved c =
    let ts = c.args.touches.now in
    let i = c.touches.touch-index in
    let a = c.args.self.now in
    spared-more ts i (counted a) c.touches-test.true c.requires.apart a c.touches.invariant (c.spares.ensures.0 c.if-not-spares.false)

pub returns : goal.returns
returns c = (
  λ x. subst (λ (ts : List Touch). AreSpared (mark_in ts) c.args.self.now) (take_all c.touches.touch-index c.args.touches.now c.touches-test.false) c.touches.invariant,
  λ all. refl,
)
