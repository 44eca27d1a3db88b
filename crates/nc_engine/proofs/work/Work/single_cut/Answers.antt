use Rattle.std.proofs.Common.{◌<◌, ℕ, sym, subst, All}
use Rattle.nc_graph.specs.declared.node.NodeId.{NodeId}
use Rattle.nc_graph.proofs.NodeLemmas.{nodes_of-within}
use Rattle.nc_types.specs.Network.{element_count}
use Rattle.nc_rules.specs.Rules.{flow_of}
use Rattle.nc_rules.specs.Seen.{state_of}
use Rattle.nc_engine.specs.Session.{test_in}
use Rattle.nc_engine.specs.Work.{tests_of}
use Rattle.nc_engine.proofs.Comparing.{ids-at, facts-hold}
use Rattle.nc_engine.proofs.Single.{first-alone}
use Rattle.nc_engine.proofs.Working.{numbers}
use Rattle.nc_engine.proofs.work.Work.single_cut.Goals as goal

pub first_strong-requires : goal.first_strong-requires
first_strong-requires c =
    let w = c.args.self.now in
    let ids = c.deref.result.now in
    let are = ids-at w.graph w.tests.items c.args.place c.index.result.now ids c.requires.place c.index.ensures c.deref.ensures.value c.requires.work.nodes in
    subst (λ (count : ℕ). All (λ (p : NodeId). p.0 < count) ids) (sym c.requires.work.marked.kept.nodes) (nodes_of-within w.graph.facts ids (test_in (tests_of w) c.args.place).facts are)

pub returns : goal.returns
returns c =
    let w = c.args.self.now in
    let s = state_of w.rules in
    let g = flow_of s in
    let flow = c.rules_make_a_flow.ensures s c.requires.work.state in
    let marked = c.requires.work.marked in
    let ids = c.deref.result.now in
    let are = ids-at w.graph w.tests.items c.args.place c.index.result.now ids c.requires.place c.index.ensures c.deref.ensures.value c.requires.work.nodes in
    let hold = facts-hold g w.graph marked.mirrors w.tests.items c.args.place c.requires.work.nodes in
    first-alone g flow w.graph c.len-facts.ensures.graph marked.mirrors w.marks (numbers marked.nodes) (element_count s.routers) marked.kept
    (c.carrying_is_evaluation.ensures.is g flow) c.law_of_one_variable.ensures ids (test_in (tests_of w) c.args.place).facts are hold c.args.free.now c.requires.elements
    c.in_ok-first.first c.in_ok-first.ensures
