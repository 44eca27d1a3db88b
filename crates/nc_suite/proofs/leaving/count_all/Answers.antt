use Rattle.std.proofs.Common.{◌<◌, ◌-◌, ◌^◌, ◌∙◌, ◌∷◌, [], length, map, take, get_or, refl, sym, ap, subst, arith}
use Rattle.std.proofs.lemmas.List.{length-map, length-take-le, map-append, take_more, take_all}
use Rattle.nc_graph.specs.Nodes.{node_flow}
use Rattle.nc_marks.specs.Kept.{AreKept}
use Rattle.nc_marks.specs.Sets.{flag}
use Rattle.nc_suite.specs.Counts.{AreCounts}
use Rattle.nc_suite.proofs.SpareLemmas.{counts-room, counts-more}
use Rattle.nc_suite.proofs.leaving.count_all.Goals as goal

pub tests-init : goal.tests-init
tests-init g c = record { reached = refl; width = refl; counts = c.requires.none }

pub count-requires-clause-kept : goal.count-requires-clause-kept
count-requires-clause-kept g c = (
  c.requires.kept.0,
  subst (λ w. AreKept (node_flow c.args.graph.now) (length c.args.graph.now.facts) c.requires.kept.0 w c.args.marks.now) (sym c.tests.invariant.width) c.requires.kept.1,
)

pub count-requires-clause-len : goal.count-requires-clause-len
count-requires-clause-len g c = ap length c.tests.invariant.reached ∙ c.requires.len

pub count-requires-clause-lowered : goal.count-requires-clause-lowered
count-requires-clause-lowered g c = λ i. ap (λ fs. flag fs i) c.tests.invariant.reached ∙ c.requires.lowered i

pub count-requires-clause-elements : goal.count-requires-clause-elements
count-requires-clause-elements g c = c.tests.invariant.counts.elements ∙ sym c.tests.invariant.width

pub count-requires-clause-room : goal.count-requires-clause-room
count-requires-clause-room g c =
    let ts = take c.tests.nodes-index c.args.tests.now in
    let numbers = map (λ t. map (λ p. p.0) t.now) ts in
    let few : length numbers < 2 ^ 32 - 1
    = omega (arith, length-map ts (λ t. map (λ p. p.0) t.now), length-take-le c.tests.nodes-index c.args.tests.now c.tests.auto.nodes-index-end, c.requires.few, c.tests-test.true) in
    counts-room (node_flow c.args.graph.now) c.args.coverage.now.listing.width numbers c.tests.tally few c.tests.invariant.counts

pub returns-in_err-count-clause-reached : goal.returns-in_err-count-clause-reached
returns-in_err-count-clause-reached g c = c.count.ensures.reached ∙ c.tests.invariant.reached

pub returns-in_err-count-clause-width : goal.returns-in_err-count-clause-width
returns-in_err-count-clause-width g c = c.count.ensures.width ∙ c.tests.invariant.width

pub tests-preserved : goal.tests-preserved
tests-preserved g c = record {
  reached = c.count.ensures.reached ∙ c.tests.invariant.reached;
  width = c.count.ensures.width ∙ c.tests.invariant.width;
  counts =
      let ts = take c.tests.nodes-index c.args.tests.now in
      let here = get_or c.args.tests.now c.tests.nodes-index (record { ref_ptr = (0, 0); now = [] }) in
      subst (λ us. AreCounts (node_flow c.args.graph.now) c.args.coverage.now.listing.width us c.count.new.tally)
      (sym (ap (map (λ t. map (λ p. p.0) t.now)) (take_more c.args.tests.now c.tests.nodes-index (record { ref_ptr = (0, 0); now = [] }) c.tests-test.true)
      ∙ map-append (λ t. map (λ p. p.0) t.now) ts (here ∷ [])))
      (counts-more (node_flow c.args.graph.now) c.args.coverage.now.listing.width (map (λ t. map (λ p. p.0) t.now) ts) (map (λ p. p.0) here.now) c.tests.tally c.count.new.tally
      c.tests.invariant.counts c.in_ok-count.ensures.adds);
}

pub returns-clause-reached : goal.returns-clause-reached
returns-clause-reached g c = c.tests.invariant.reached

pub returns-clause-width : goal.returns-clause-width
returns-clause-width g c = c.tests.invariant.width

pub returns-clause-counts : goal.returns-clause-counts
returns-clause-counts g c =
    subst (λ ts. AreCounts (node_flow c.args.graph.now) c.args.coverage.now.listing.width (map (λ t. map (λ p. p.0) t.now) ts) c.tests.tally) (take_all c.tests.nodes-index c.args.tests.now c.tests-test.false) c.tests.invariant.counts
