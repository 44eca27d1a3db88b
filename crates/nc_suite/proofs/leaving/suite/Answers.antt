use Rattle.std.proofs.Common.{◌<◌, [], length, map, sym, ap, subst, arith, All}
use Rattle.std.proofs.lemmas.List.{length-map}
use Rattle.nc_graph.specs.Nodes.{node_flow}
use Rattle.nc_marks.specs.Marks.{marked_elements}
use Rattle.nc_suite.specs.Suite.{IsSuite}
use Rattle.nc_suite.proofs.RepeatLemmas.{numbers-of, left-long, left-mapped, valid-left, suite-of-left}
use Rattle.nc_suite.proofs.leaving.suite.Goals as goal

pub leave_out_each-requires-clause-few : goal.leave_out_each-requires-clause-few
leave_out_each-requires-clause-few g c =
    let tests = c.args.tests.now in
    let lefts = c.in_ok-left.left.items in
    let long = left-long [] (map (λ t. t.now) tests) (map (λ t. t.now) lefts) c.in_ok-left.ensures in
    omega (arith, c.requires.few, long, length-map tests (λ t. t.now), length-map lefts (λ t. t.now), ap length c.deref.ensures.value)

pub leave_out_each-requires-clause-valid : goal.leave_out_each-requires-clause-valid
leave_out_each-requires-clause-valid g c =
    subst (λ ts. All (λ t. All (λ p. p.0 < length c.args.graph.now.facts) t.now) ts) (sym c.deref.ensures.value)
    (valid-left (λ t. t.now) (λ p. p.0 < length c.args.graph.now.facts) c.args.tests.now c.in_ok-left.left.items c.in_ok-left.ensures c.requires.valid)

pub returns : goal.returns
returns g c =
    let n = c.args.graph.now in
    let elements = marked_elements c.args.marks.now.marks in
    let tests = c.args.tests.now in
    let lefts = c.in_ok-left.left.items in
    let places = c.in_ok-places.places.items in
    let are = left-mapped (λ p. p.0) [] (map (λ t. t.now) tests) (map (λ t. t.now) lefts) c.in_ok-left.ensures in
    let found : IsSuite (node_flow n) elements (map (λ t. map (λ p. p.0) t.now) lefts) places
    = subst (λ ts. IsSuite (node_flow n) elements (map (λ t. map (λ p. p.0) t.now) ts) places) c.deref.ensures.value c.in_ok-places.ensures in
    subst (λ ts. IsSuite (node_flow n) elements ts places) (sym (numbers-of (λ t. t.now) tests))
    (suite-of-left (node_flow n) elements _ _ are places (subst (λ ts. IsSuite (node_flow n) elements ts places) (numbers-of (λ t. t.now) lefts) found))
