use Rattle.std.proofs.Common.{◌∙◌, List, length, map, false, sym, ap, subst, arith}
use Rattle.std.proofs.lemmas.List.{length-set}
use Rattle.nc_types.specs.Network.{element_count}
use Rattle.nc_graph.specs.Nodes.{node_flow}
use Rattle.nc_graph.specs.declared.node.NodeId.{NodeId}
use Rattle.nc_graph.proofs.NodeLemmas.{nodes_of-within}
use Rattle.nc_marks.specs.Kept.{AreKept}
use Rattle.nc_formula.specs.Session.{Asked, AreDrawn, HasMoreParts}
use Rattle.nc_tables.specs.State.{StateView}
use Rattle.nc_fact.specs.declared.fact.Fact.{Fact}
use Rattle.nc_rules.specs.Rules.{flow_of}
use Rattle.nc_rules.specs.Seen.{state_of}
use Rattle.nc_engine.specs.Limits.{most_parts}
use Rattle.nc_engine.specs.Session.{State, posed_in, asked_in, live_in}
use Rattle.nc_engine.specs.Work.{nodes_in, test_view, tests_of, kept_of}
use Rattle.nc_engine.proofs.Working.{numbers, shown-more}
use Rattle.nc_engine.proofs.Fewer.{asked-fewer, posed-fewer, after, after-view, after-nodes, after-live, marked-fewer}
use Rattle.nc_engine.proofs.Drawing.{answered-fewer}
use Rattle.nc_engine.proofs.work.Work.forget_at.Goals as goal

pub forget-requires-clause-valid : goal.forget-requires-clause-valid
forget-requires-clause-valid c =
    let w = c.args.self.now in
    let t = c.index_mut.result.now in
    let live = after-live w c.args.place t c.requires.place c.index_mut.ensures.value c.requires.work.nodes c.in_ok-live.live.items (c.in_ok-live.ensures ∙ ap nodes_in c.deref.ensures.value) in
    rw c.deref-2.ensures.value (nodes_of-within w.graph.facts c.in_ok-live.live.items (live_in (map test_view (after w c.args.place t))) live)

pub returns-clause-work : goal.returns-clause-work
returns-clause-work c =
    let w = c.args.self.now in
    let s = state_of w.rules in
    let marked = c.requires.work.marked in
    let t = c.index_mut.result.now in
    let view = after-view w c.args.place t c.requires.place c.index_mut.ensures.value in
    let net = c.network-network.ensures.network ∙ ap (λ (s : StateView). s.routers) c.state.ensures in
    record {
      state = c.requires.work.state;
      marked = marked-fewer s (tests_of w) (map test_view (after w c.args.place t)) w.graph w.marks c.forget.new.self marked (ap (λ (kept : State). asked_in kept.tests) view ∙ asked-fewer (tests_of w) c.args.place)
          c.in_ok-live.live.items (after-live w c.args.place t c.requires.place c.index_mut.ensures.value c.requires.work.nodes c.in_ok-live.live.items (c.in_ok-live.ensures ∙ ap nodes_in c.deref.ensures.value))
          (subst (λ (ids : List NodeId). AreKept (node_flow w.graph) (length w.graph.facts) (numbers ids) (element_count s.routers) c.forget.new.self) c.deref-2.ensures.value
          (c.in_ok-touched.ensures.kept (numbers marked.nodes) (element_count s.routers) marked.kept));
      nodes = after-nodes w c.args.place t c.requires.place c.index_mut.ensures.value c.requires.work.nodes;
      drawn = subst (λ (a : Asked Fact). AreDrawn (flow_of s) a w.graph w.store w.formulas) (sym (ap posed_in view ∙ posed-fewer (kept_of w) c.args.place)) c.requires.work.drawn;
      answered = answered-fewer w.formulas w.tests.items c.args.place t c.requires.place c.index_mut.ensures.value w.pairs.items c.requires.work.answered;
      room = c.requires.work.room;
      shown = shown-more s.routers c.network-network.result.now w.marks.marks c.forget.new.self.marks c.marks.result.now c.in_ok-touched.touched.items c.deref-3.result.now w.shown c.refresh.new.self
          net c.marks.ensures c.deref-3.ensures.value marked.kept.marks.count c.in_ok-touched.ensures.touched c.requires.work.shown c.refresh.ensures;
      few = omega (arith, c.requires.work.few, length-set w.tests.items c.args.place (record { facts = c.index_mut.result.now.facts; nodes = c.index_mut.result.now.nodes; live = false }));
      dead = c.requires.work.dead;
      crowded = λ place raised. subst (λ (a : Asked Fact). HasMoreParts (flow_of s) a most_parts) (sym (ap posed_in view ∙ posed-fewer (kept_of w) c.args.place)) (c.requires.work.crowded place raised);
    }

pub returns-clause-kept : goal.returns-clause-kept
returns-clause-kept c = after-view c.args.self.now c.args.place c.index_mut.result.now c.requires.place c.index_mut.ensures.value
