use Rattle.std.proofs.Common.{◌≡◌, ◌<◌, length, sym, ap, ◌∙◌, arith}
use Rattle.std.proofs.lemmas.Bool.{ltb-true}
use Rattle.std.proofs.lemmas.List.{length-map, get_or-map}
use Rattle.std.proofs.lemmas.Slice.Eq.{slice_eq-Decides}
use Rattle.nc_suite.proofs.RepeatLemmas.{node-decides}
use Rattle.nc_suite.proofs.repeats.is_at.Goals as goal

pub returns-in-Some : goal.returns-in-Some
returns-in-Some c same =
    let tests = c.args.tests.now in
    let place = c.args.place in
    let look = c.in-Some.ensures.lookup in
    let lt : place < length tests = ltb-true place (length tests) (sym look.0) in
    let eq : c.in-Some.test.now.now ≡ c.args.nodes.now = (slice_eq-Decides node-decides c.in-Some.test.now.now c.args.nodes.now c.eq.result c.eq.ensures).0 same in
    (place, (omega (arith, length-map tests (λ t. t.now), lt)), get_or-map (λ t. t.now) tests place _ _ lt ∙ ap (λ t. t.now) (sym look.1) ∙ eq)
