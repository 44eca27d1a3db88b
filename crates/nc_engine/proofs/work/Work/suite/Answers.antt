use Rattle.std.proofs.Common.{◌∙◌, ℕ, ◌<◌, List, Bor, All, length, map, refl, sym, ap, subst}
use Rattle.nc_types.specs.Network.{element_count}
use Rattle.nc_graph.specs.Nodes.{node_flow}
use Rattle.nc_graph.specs.declared.node.NodeId.{NodeId}
use Rattle.nc_rules.specs.Rules.{flow_of}
use Rattle.nc_rules.specs.Seen.{state_of}
use Rattle.nc_suite.specs.Suite.{IsSuite}
use Rattle.nc_engine.specs.Session.{live_each}
use Rattle.nc_engine.specs.Suites.{suite_of}
use Rattle.nc_engine.specs.Work.{nodes_each, tests_of}
use Rattle.nc_engine.proofs.Suited.{all-made, each-of, each-within, numbers-behind}
use Rattle.nc_engine.proofs.work.Work.suite.Goals as goal

pub suite-requires-clause-valid : goal.suite-requires-clause-valid
suite-requires-clause-valid c =
    let w = c.args.self.now in
    let nodes = ap (map (λ (t : Bor (List NodeId)). t.now)) c.deref-2.ensures.value ∙ c.in_ok-tests.ensures ∙ ap nodes_each c.deref.ensures.value in
    all-made (All (λ (p : NodeId). p.0 < length w.graph.facts)) (λ (t : Bor (List NodeId)). t.now) c.deref-2.result.now
    (subst (All (All (λ (p : NodeId). p.0 < length w.graph.facts))) (sym nodes) (each-within w.graph w.tests.items c.requires.nodes))

pub returns : goal.returns
returns c =
    let w = c.args.self.now in
    let s = state_of w.rules in
    let was = c.requires in
    let places = c.deref-3.result.now in
    let nodes = ap (map (λ (t : Bor (List NodeId)). t.now)) c.deref-2.ensures.value ∙ c.in_ok-tests.ensures ∙ ap nodes_each c.deref.ensures.value in
    let numbers = numbers-behind c.deref-2.result.now ∙ ap (map (map (λ (p : NodeId). p.0))) nodes in
    let by_nodes = subst (IsSuite (node_flow w.graph) (element_count s.routers) (map (map (λ (p : NodeId). p.0)) (nodes_each w.tests.items))) (sym c.deref-3.ensures.value)
    (subst (λ (tests : List (List ℕ)). IsSuite (node_flow w.graph) (element_count s.routers) tests c.in_ok-places.places.items) numbers
    (subst (λ (n : ℕ). IsSuite (node_flow w.graph) n (map (λ t. map (λ p. p.0) t.now) c.deref-2.result.now) c.in_ok-places.places.items) was.marked.kept.marks.count c.in_ok-places.ensures)) in
    record {
      reply = suite_of places;
      answer = (
        record {
          kept = places;
          suite = c.suite_of_nodes_is_of_facts.ensures (flow_of s) (c.rules_make_a_flow.ensures s was.state) w.graph c.len-facts.ensures.graph was.marked.mirrors (nodes_each w.tests.items) (live_each (tests_of w))
              (each-of w.graph w.tests.items was.nodes) (element_count s.routers) places by_nodes;
          text = refl;
        },
        refl,
      );
      text = c.in_ok-push_suite.ensures;
    }
