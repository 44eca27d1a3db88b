use Rattle.std.proofs.Common.{arith, false, sym, ap, ◌∙◌, subst, length, map}
use Rattle.nc_types.specs.Network.{element_count}
use Rattle.nc_tables.specs.State.{StateView, IsState}
use Rattle.std.proofs.lemmas.List.Elements.{All-nil}
use Rattle.nc_graph.specs.Nodes.{AreNodesOf}
use Rattle.nc_formula.specs.Session.{AreDrawn}
use Rattle.nc_rules.specs.Rules.{flow_of}
use Rattle.nc_rules.specs.Seen.{state_of}
use Rattle.nc_engine.specs.Work.{HaveNodes, IsDrawnFor, drawn_in, test_view}
use Rattle.nc_engine.proofs.Working.{marked-none, shown-first}
use Rattle.nc_engine.proofs.Crowding.{none_raised}
use Rattle.nc_engine.proofs.work.Work.begin.Goals as goal

pub returns-clause-work : goal.returns-clause-work
returns-clause-work c =
    let s = state_of c.new-rules.result in
    let network = c.network-network.ensures.network ∙ ap (λ (t : StateView). t.routers) c.state.ensures in
    record {
      state = subst IsState c.state.ensures c.network-network.ensures.state;
      marked =
          rw c.new-4.ensures.items (marked-none s c.new-3.result c.in_ok-kept.kept c.element_count.result c.new-3.ensures.empty
          (c.element_count.ensures.count ∙ ap element_count network) (c.new-3.ensures.mirrors _) c.in_ok-kept.ensures.kept);
      shown = shown-first s.routers c.network-network.result.now c.in_ok-kept.kept.marks c.marks.result.now c.in_ok-shown.shown network c.marks.ensures c.in_ok-shown.ensures;
      nodes = subst (HaveNodes c.new-3.result) (sym c.new-4.ensures.items) (All-nil (λ t. AreNodesOf c.new-3.result t.nodes.items t.facts.items));
      drawn = subst (AreDrawn (flow_of s) _ c.new-3.result c.new-6.result) (sym c.new-7.ensures) (c.nothing_is_drawn.ensures (flow_of s) _ c.new-3.result c.new-6.result c.new-6.ensures.constants_alone);
      answered = rw c.new-5.ensures.items (All-nil (IsDrawnFor c.new-7.result c.new-4.result.items));
      room = c.new-6.ensures.limit;
      few = omega (arith, ap length c.new-4.ensures.items);
      dead = λ known is. absurd (cc);
      crowded = λ place raised. absurd (none_raised c.new-8.result.items c.new-8.ensures.items place raised);
    }

pub returns-clause-progress : goal.returns-clause-progress
unfolding drawn_in
returns-clause-progress c = λ files i. record {
  loaded = record { state = c.new-rules.ensures.state i; files = files; listed = c.args.listed };
  session = record { tests = map test_view (c.new-4.ensures.items i); pairs = c.new-5.ensures.items i };
  asked = c.new-rules.ensures.asked i;
  drawn = drawn_in (c.new-3.ensures.empty i).facts c.new-7.result;
  diagrams = record { nodes = c.new-6.ensures.constants_alone i; limit = c.new-6.ensures.limit i };
  dead_known = false;
}
