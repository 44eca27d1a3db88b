use Rattle.std.proofs.Common.{◌∙◌, subst, arith}
use Rattle.std.proofs.lemmas.List.{length-map}
use Rattle.std.specs.List.Sorted.{IsStrictlyIncreasing}
use Rattle.std.proofs.lemmas.Result.{IfOk-weaker}
use Rattle.nc_graph.proofs.NodeLemmas.{nodes_of-within}
use Rattle.nc_diagram.specs.Sets.{all_but}
use Rattle.nc_formula.specs.Session.{HasMoreParts}
use Rattle.nc_rules.specs.Rules.{flow_of}
use Rattle.nc_rules.specs.Seen.{state_of}
use Rattle.nc_engine.specs.Questions.{IsImplied, IsGreatestApart}
use Rattle.nc_engine.specs.Session.{test_in, posed_in, with_pair}
use Rattle.nc_engine.specs.Work.{kept_of, test_view, tests_of}
use Rattle.nc_engine.proofs.Carrying.{implied, greatest}
use Rattle.nc_engine.proofs.Comparing.{posed-at, ids-at, nodes-hold, option-weaker}
use Rattle.nc_engine.proofs.Drawing.{answered-still, drawn-at}
use Rattle.nc_engine.proofs.Crowding.{crowded-both}
use Rattle.nc_engine.proofs.Gaining.{draws-both}
use Rattle.nc_engine.proofs.work.Work.compare.Goals as goal

pub compare-requires-clause-first : goal.compare-requires-clause-first
compare-requires-clause-first c =
    let w = c.args.self.now in
    let first = ids-at w.graph w.tests.items c.args.first c.index.result.now c.deref.result.now c.requires.first c.index.ensures c.deref.ensures.value c.requires.work.nodes in
    nodes_of-within w.graph.facts c.deref.result.now (test_in (tests_of w) c.args.first).facts first

pub compare-requires-clause-second : goal.compare-requires-clause-second
compare-requires-clause-second c =
    let w = c.args.self.now in
    let second = ids-at w.graph w.tests.items c.args.second c.index-2.result.now c.deref-2.result.now c.requires.second c.index-2.ensures c.deref-2.ensures.value c.requires.work.nodes in
    nodes_of-within w.graph.facts c.deref-2.result.now (test_in (tests_of w) c.args.second).facts second

pub returns-clause-work : goal.returns-clause-work
returns-clause-work c =
    let w = c.args.self.now in
    let s = state_of w.rules in
    let g = flow_of s in
    let flow = c.rules_make_a_flow.ensures s c.requires.work.state in
    let mirrors = c.requires.work.marked.mirrors in
    let left = (test_in (tests_of w) c.args.first).facts in
    let right = (test_in (tests_of w) c.args.second).facts in
    let first = ids-at w.graph w.tests.items c.args.first c.index.result.now c.deref.result.now c.requires.first c.index.ensures c.deref.ensures.value c.requires.work.nodes in
    let second = ids-at w.graph w.tests.items c.args.second c.index-2.result.now c.deref-2.result.now c.requires.second c.index-2.ensures c.deref-2.ensures.value c.requires.work.nodes in
    let here = posed-at (tests_of w) c.args.first (omega (arith, c.requires.first, length-map w.tests.items test_view)) in
    let there = posed-at (tests_of w) c.args.second (omega (arith, c.requires.second, length-map w.tests.items test_view)) in
    let was = c.requires.work in
    record {
      state = was.state;
      marked = was.marked;
      nodes = was.nodes;
      drawn = c.drawn_by_a_comparison.ensures g flow w.graph c.len-facts.ensures.graph mirrors (posed_in (kept_of w)) c.args.first c.args.second left right here there
          c.deref.result.now c.deref-2.result.now first second w.store c.compare.new.store w.formulas c.compare.new.self was.drawn c.compare.ensures.gains c.compare.ensures.formulas;
      answered = answered-still w.formulas c.compare.new.self c.compare.ensures.still w.tests.items w.pairs.items was.answered;
      room = c.compare.ensures.gains.same_limit ∙ was.room;
      shown = was.shown;
      few = was.few;
      dead = was.dead;
      crowded = was.crowded;
    }

pub returns-clause-draws : goal.returns-clause-draws
returns-clause-draws c =
    let w = c.args.self.now in
    let s = state_of w.rules in
    let flow = c.rules_make_a_flow.ensures s c.requires.work.state in
    let left = (test_in (tests_of w) c.args.first).facts in
    let right = (test_in (tests_of w) c.args.second).facts in
    let first = ids-at w.graph w.tests.items c.args.first c.index.result.now c.deref.result.now c.requires.first c.index.ensures c.deref.ensures.value c.requires.work.nodes in
    let second = ids-at w.graph w.tests.items c.args.second c.index-2.result.now c.deref-2.result.now c.requires.second c.index-2.ensures c.deref-2.ensures.value c.requires.work.nodes in
    draws-both s flow w.graph c.len-facts.ensures.graph c.requires.work.marked.mirrors w.store c.compare.new.store left right
    c.deref.result.now c.deref-2.result.now first second c.compare.ensures.gains

pub returns-clause-answers : goal.returns-clause-answers
returns-clause-answers c =
    let w = c.args.self.now in
    let s = state_of w.rules in
    let g = flow_of s in
    let flow = c.rules_make_a_flow.ensures s c.requires.work.state in
    let mirrors = c.requires.work.marked.mirrors in
    let left = (test_in (tests_of w) c.args.first).facts in
    let right = (test_in (tests_of w) c.args.second).facts in
    let first = ids-at w.graph w.tests.items c.args.first c.index.result.now c.deref.result.now c.requires.first c.index.ensures c.deref.ensures.value c.requires.work.nodes in
    let second = ids-at w.graph w.tests.items c.args.second c.index-2.result.now c.deref-2.result.now c.requires.second c.index-2.ensures c.deref-2.ensures.value c.requires.work.nodes in
    let evaluated = c.carrying_is_evaluation.ensures.is g flow in
    let holds = nodes-hold g w.graph mirrors c.deref.result.now left first in
    let hold = nodes-hold g w.graph mirrors c.deref-2.result.now right second in
    let facts = c.comparisons_are_of_facts.ensures in
    IfOk-weaker c.compare.result _ _
    (λ o is. option-weaker _ (IsImplied g left right) _ (λ missing. IsStrictlyIncreasing missing.items × IsGreatestApart g left right (all_but missing.items))
    (λ implies. implied g evaluated left right holds hold (facts.implies g flow w.graph c.len-facts.ensures.graph mirrors c.deref.result.now c.deref-2.result.now left right first second implies))
    (λ missing answer. (
      answer.0,
      greatest g evaluated left right holds hold (all_but missing.items)
          (facts.greatest g flow w.graph c.len-facts.ensures.graph mirrors c.deref.result.now c.deref-2.result.now left right first second (all_but missing.items) answer.1),
    )) o is) c.compare.ensures.answers

pub returns-clause-full : goal.returns-clause-full
returns-clause-full c = λ full.
    let w = c.args.self.now in
    let s = state_of w.rules in
    let g = flow_of s in
    let flow = c.rules_make_a_flow.ensures s c.requires.work.state in
    let mirrors = c.requires.work.marked.mirrors in
    let left = (test_in (tests_of w) c.args.first).facts in
    let right = (test_in (tests_of w) c.args.second).facts in
    let first = ids-at w.graph w.tests.items c.args.first c.index.result.now c.deref.result.now c.requires.first c.index.ensures c.deref.ensures.value c.requires.work.nodes in
    let second = ids-at w.graph w.tests.items c.args.second c.index-2.result.now c.deref-2.result.now c.requires.second c.index-2.ensures c.deref-2.ensures.value c.requires.work.nodes in
    let here = posed-at (tests_of w) c.args.first (omega (arith, c.requires.first, length-map w.tests.items test_view)) in
    let there = posed-at (tests_of w) c.args.second (omega (arith, c.requires.second, length-map w.tests.items test_view)) in
    subst (HasMoreParts g (posed_in (with_pair (kept_of w) c.args.first c.args.second))) c.requires.work.room
    (c.refused_for_its_parts.ensures g flow w.graph c.len-facts.ensures.graph mirrors (posed_in (kept_of w)) c.args.first c.args.second left right here there
    c.deref.result.now c.deref-2.result.now first second w.store w.formulas c.requires.work.drawn (c.compare.ensures.full full))

pub returns-clause-crowded : goal.returns-clause-crowded
returns-clause-crowded c = λ full.
    let w = c.args.self.now in
    let s = state_of w.rules in
    let g = flow_of s in
    let flow = c.rules_make_a_flow.ensures s c.requires.work.state in
    let mirrors = c.requires.work.marked.mirrors in
    let left = (test_in (tests_of w) c.args.first).facts in
    let right = (test_in (tests_of w) c.args.second).facts in
    let first = ids-at w.graph w.tests.items c.args.first c.index.result.now c.deref.result.now c.requires.first c.index.ensures c.deref.ensures.value c.requires.work.nodes in
    let second = ids-at w.graph w.tests.items c.args.second c.index-2.result.now c.deref-2.result.now c.requires.second c.index-2.ensures c.deref-2.ensures.value c.requires.work.nodes in
    let here = posed-at (tests_of w) c.args.first (omega (arith, c.requires.first, length-map w.tests.items test_view)) in
    let there = posed-at (tests_of w) c.args.second (omega (arith, c.requires.second, length-map w.tests.items test_view)) in
    subst (HasMoreParts g (posed_in (kept_of w))) c.requires.work.room
    (crowded-both g flow w.graph c.len-facts.ensures.graph mirrors (posed_in (kept_of w)) c.args.first c.args.second left right here there
    c.deref.result.now c.deref-2.result.now first second w.store w.formulas c.requires.work.drawn (c.compare.ensures.full full))

pub returns-clause-drawn : goal.returns-clause-drawn
returns-clause-drawn c =
    let w = c.args.self.now in
    drawn-at c.compare.result c.compare.new.self w.tests.items c.args.first c.args.second c.index.result.now c.index-2.result.now c.requires.first c.requires.second c.index.ensures c.index-2.ensures
    c.deref.result.now c.deref-2.result.now c.deref.ensures.value c.deref-2.ensures.value c.compare.ensures.first c.compare.ensures.second
