use Rattle.std.proofs.Common.{◌∙◌, subst, arith}
use Rattle.std.proofs.lemmas.List.{length-map}
use Rattle.std.proofs.lemmas.Result.{IfOk-weaker}
use Rattle.nc_graph.proofs.NodeLemmas.{nodes_of-within}
use Rattle.nc_formula.specs.Session.{HasMoreParts}
use Rattle.nc_rules.specs.Rules.{flow_of}
use Rattle.nc_rules.specs.Seen.{state_of}
use Rattle.nc_engine.specs.Session.{test_in, posed_in}
use Rattle.nc_engine.specs.Work.{kept_of, test_view, tests_of}
use Rattle.nc_engine.proofs.Comparing.{posed-at, ids-at}
use Rattle.nc_engine.proofs.Drawing.{answered-still, test-drawn}
use Rattle.nc_engine.proofs.Gaining.{draws-test}
use Rattle.nc_engine.proofs.work.Work.draw.Goals as goal

pub of_each-requires-clause-valid : goal.of_each-requires-clause-valid
of_each-requires-clause-valid c =
    let w = c.args.self.now in
    let nodes = ids-at w.graph w.tests.items c.args.place c.index.result.now c.deref.result.now c.requires.place c.index.ensures c.deref.ensures.value c.requires.work.nodes in
    nodes_of-within w.graph.facts c.deref.result.now (test_in (tests_of w) c.args.place).facts nodes

pub returns-clause-work : goal.returns-clause-work
returns-clause-work c =
    let w = c.args.self.now in
    let s = state_of w.rules in
    let g = flow_of s in
    let flow = c.rules_make_a_flow.ensures s c.requires.work.state in
    let was = c.requires.work in
    let facts = (test_in (tests_of w) c.args.place).facts in
    let nodes = ids-at w.graph w.tests.items c.args.place c.index.result.now c.deref.result.now c.requires.place c.index.ensures c.deref.ensures.value was.nodes in
    let here = posed-at (tests_of w) c.args.place (omega (arith, c.requires.place, length-map w.tests.items test_view)) in
    record {
      state = was.state;
      marked = was.marked;
      nodes = was.nodes;
      drawn = c.drawn_by_a_test.ensures g flow w.graph c.len-facts.ensures.graph was.marked.mirrors (posed_in (kept_of w)) c.args.place facts here
          c.deref.result.now nodes w.store c.of_each.new.store w.formulas c.of_each.new.self was.drawn c.of_each.ensures.gains c.of_each.ensures.formulas;
      answered = answered-still w.formulas c.of_each.new.self c.of_each.ensures.still w.tests.items w.pairs.items was.answered;
      room = c.of_each.ensures.gains.same_limit ∙ was.room;
      shown = was.shown;
      few = was.few;
      dead = was.dead;
      crowded = was.crowded;
    }

pub returns-clause-draws : goal.returns-clause-draws
returns-clause-draws c =
    let w = c.args.self.now in
    let s = state_of w.rules in
    let flow = c.rules_make_a_flow.ensures s c.requires.work.state in
    let facts = (test_in (tests_of w) c.args.place).facts in
    let nodes = ids-at w.graph w.tests.items c.args.place c.index.result.now c.deref.result.now c.requires.place c.index.ensures c.deref.ensures.value c.requires.work.nodes in
    draws-test s flow w.graph c.len-facts.ensures.graph c.requires.work.marked.mirrors w.store c.of_each.new.store facts c.deref.result.now nodes c.of_each.ensures.gains

pub returns-clause-means : goal.returns-clause-means
returns-clause-means c =
    let w = c.args.self.now in
    let s = state_of w.rules in
    let g = flow_of s in
    let flow = c.rules_make_a_flow.ensures s c.requires.work.state in
    let facts = (test_in (tests_of w) c.args.place).facts in
    let nodes = ids-at w.graph w.tests.items c.args.place c.index.result.now c.deref.result.now c.requires.place c.index.ensures c.deref.ensures.value c.requires.work.nodes in
    let same = c.comparisons_are_of_facts.ensures.carrying g flow w.graph c.len-facts.ensures.graph c.requires.work.marked.mirrors c.deref.result.now facts nodes in
    IfOk-weaker c.of_each.result _ _ (λ r means. record { belongs = means.belongs; means = λ set. means.means set ∙ same set }) c.of_each.ensures.means

pub returns-clause-full : goal.returns-clause-full
returns-clause-full c = λ full.
    let w = c.args.self.now in
    let s = state_of w.rules in
    let g = flow_of s in
    let flow = c.rules_make_a_flow.ensures s c.requires.work.state in
    let facts = (test_in (tests_of w) c.args.place).facts in
    let nodes = ids-at w.graph w.tests.items c.args.place c.index.result.now c.deref.result.now c.requires.place c.index.ensures c.deref.ensures.value c.requires.work.nodes in
    let here = posed-at (tests_of w) c.args.place (omega (arith, c.requires.place, length-map w.tests.items test_view)) in
    subst (HasMoreParts g (posed_in (kept_of w))) c.requires.work.room
    (c.refused_for_the_parts_of_a_test.ensures g flow w.graph c.len-facts.ensures.graph c.requires.work.marked.mirrors (posed_in (kept_of w)) c.args.place facts here
    c.deref.result.now nodes w.store w.formulas c.requires.work.drawn (c.of_each.ensures.full full))

pub returns-clause-drawn : goal.returns-clause-drawn
returns-clause-drawn c =
    let w = c.args.self.now in
    test-drawn c.of_each.result c.of_each.new.self w.tests.items c.args.place c.index.result.now c.requires.place c.index.ensures c.deref.result.now c.deref.ensures.value c.of_each.ensures.known
