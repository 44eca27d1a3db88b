use Rattle.std.proofs.Common.{◌-◌, ◌<◌, false, true, length, sym, ap, ◌∙◌, arith}
use Rattle.std.proofs.lemmas.List.{length-map}
use Rattle.nc_engine.specs.Session.{KeptTest}
use Rattle.nc_engine.specs.Work.{test_view, tests_of}
use Rattle.nc_engine.proofs.Fewer.{seen-at, no-place, a-place}
use Rattle.nc_engine.proofs.work.Work.live_place.Goals as goal

pub returns-then-place-len-clause-place : goal.returns-then-place-len-clause-place
returns-then-place-len-clause-place c =
    let w = c.args.self.now in
    sym (no-place (tests_of w) c.args.number c.if-number-eq0.false (omega (arith, c.if-place-len.true, c.len.ensures, w.tests.ok.0, length-map w.tests.items test_view)))

pub returns-then-not-index-clause-place : goal.returns-then-not-index-clause-place
returns-then-not-index-clause-place c =
    let w = c.args.self.now in
    let lt : c.args.number - 1 < length w.tests.items = omega (arith, c.if-place-len.false, c.len.ensures, w.tests.ok.0) in
    sym (a-place (tests_of w) c.args.number false c.if-number-eq0.false
    (ap (λ (t : KeptTest). t.live) (sym (seen-at w.tests.items _ c.index.result.now lt c.index.ensures)) ∙ c.if-not-index.true))

pub returns-clause-place : goal.returns-clause-place
returns-clause-place c =
    let w = c.args.self.now in
    let lt : c.args.number - 1 < length w.tests.items = omega (arith, c.if-place-len.false, c.len.ensures, w.tests.ok.0) in
    sym (a-place (tests_of w) c.args.number true c.if-number-eq0.false
    (ap (λ (t : KeptTest). t.live) (sym (seen-at w.tests.items _ c.index.result.now lt c.index.ensures)) ∙ c.if-not-index.false))
