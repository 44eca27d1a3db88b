-- What a test that is taken up makes of the graph and its marks.
use Rattle.std.proofs.Common.{◌≡◌, ℕ, List, [], ◌∷◌, ◌++◌, if◌then◌else◌, length, map, refl, sym, ap, ◌∙◌, subst}
use Rattle.std.proofs.lemmas.List.{map-append, map_push, flat_map_more}
use Rattle.nc_types.specs.Network.{element_count}
use Rattle.nc_graph.specs.Closure.{IsClosure}
use Rattle.nc_graph.specs.Flow.{Flow}
use Rattle.nc_graph.specs.Nodes.{Nodes, no_nodes, Mirrors, Extends, AreNodesOf, node_flow}
use Rattle.nc_graph.specs.declared.node.NodeId.{NodeId}
use Rattle.nc_types.specs.Config.{ConfigView}
use Rattle.nc_marks.specs.Kept.{Kept, AreKept, TouchesOnly}
use Rattle.nc_marks.specs.Marks.{ElementMarks, marked_elements}
use Rattle.nc_tables.specs.State.{StateView}
use Rattle.nc_fact.specs.declared.fact.Fact.{Fact}
use Rattle.nc_rules.specs.Rules.{flow_of}
use Rattle.nc_engine.specs.Limits.{most_facts}
use Rattle.nc_engine.specs.Session.{KeptTest, live_test, asked_in, live_in}
use Rattle.nc_report.specs.Texts.{Sheet}
use Rattle.nc_report.specs.Sheets.{sheets_from}
use Rattle.nc_engine.specs.Work.{IsMarked}
use Rattle.nc_engine.proofs.Closing.{closure-nil, closure-more, nodes-extended, nodes-append}

-- the facts of one test more, which is live
pub asked-more : (tests : List KeptTest) (facts : List Fact) → asked_in (tests ++ live_test facts ∷ []) ≡ asked_in tests ++ facts
asked-more tests facts = sym (flat_map_more (λ t. t.facts) [] tests (live_test facts))

pub live-more : (tests : List KeptTest) (facts : List Fact) → live_in (tests ++ live_test facts ∷ []) ≡ live_in tests ++ facts
live-more tests facts = sym (flat_map_more (λ t. if t.live then t.facts else []) [] tests (live_test facts))

-- a test more, in a list of what is seen of tests
pub tests-more : {V W : Type 0} (view : V → W) (tests more : List V) (test : V) → more ≡ tests ++ test ∷ [] → map view more ≡ map view tests ++ view test ∷ []
tests-more view tests more test pushed = ap (map view) pushed ∙ map_push view tests test

-- the numbers of nodes
abbrev pub numbers : List NodeId → List ℕ
numbers ids = map (λ p. p.0) ids

module _ (s : StateView) (tests : List KeptTest) (facts : List Fact) (old new : Nodes Fact) (before after : Kept) (ids : List NodeId) (marked : IsMarked s tests old before)
    (mirrors : Mirrors (flow_of s) new) (closure : IsClosure (flow_of s) (old.facts ++ facts) new.facts) (longer : Extends old new) (nodes : AreNodesOf new ids facts) where
  all_closure : IsClosure (flow_of s) (asked_in tests ++ facts) new.facts
  all_closure = closure-more (flow_of s) (asked_in tests) old.facts marked.closure facts new.facts closure

  all_nodes : AreNodesOf new (marked.nodes ++ ids) (live_in tests ++ facts)
  all_nodes = nodes-append new marked.nodes ids (live_in tests) facts (nodes-extended old new longer marked.nodes (live_in tests) marked.are_nodes) nodes

  -- the graph has the facts of a test more
  pub marked-more : (extended : (live : List ℕ) (elements : ℕ) (k : Kept) → AreKept (node_flow old) (length old.facts) live elements k → AreKept (node_flow new) (length old.facts) live elements k)
      → (adds : (count : ℕ) (live : List ℕ) (elements : ℕ) → AreKept (node_flow new) count live elements before → AreKept (node_flow new) (length new.facts) (live ++ numbers ids) elements after)
      → IsMarked s (tests ++ live_test facts ∷ []) new after
  marked-more extended adds = record {
    mirrors = mirrors;
    closure = subst (λ (fs : List Fact). IsClosure (flow_of s) fs new.facts) (sym (asked-more tests facts)) all_closure;
    limit = longer.limit ∙ marked.limit;
    nodes = marked.nodes ++ ids;
    are_nodes = subst (λ (fs : List Fact). AreNodesOf new (marked.nodes ++ ids) fs) (sym (live-more tests facts)) all_nodes;
    kept = subst (λ (tops : List ℕ). AreKept (node_flow new) (length new.facts) tops (element_count s.routers) after) (sym (map-append (λ p. p.0) marked.nodes ids))
        (adds (length old.facts) (numbers marked.nodes) (element_count s.routers) (extended (numbers marked.nodes) (element_count s.routers) before marked.kept));
  }

-- the graph as it was
pub marked-same : (s : StateView) (tests : List KeptTest) (old new : Nodes Fact) (k : Kept) → new ≡ old → IsMarked s tests old k → IsMarked s tests new k
marked-same s tests old new k same marked = subst (λ (n : Nodes Fact). IsMarked s tests n k) (sym same) marked

-- no test
pub marked-none : (s : StateView) (n : Nodes Fact) (k : Kept) (elements : ℕ) → n ≡ no_nodes most_facts → elements ≡ element_count s.routers → Mirrors (flow_of s) n
    → ((g : Flow ℕ) → AreKept g 0 [] elements k) → IsMarked s [] n k
marked-none s n k elements empty count mirrors kept = marked-same s [] (no_nodes most_facts) n k empty (record {
  mirrors = subst (λ (n : Nodes Fact). Mirrors (flow_of s) n) empty mirrors;
  closure = closure-nil (flow_of s);
  limit = refl;
  nodes = [];
  are_nodes = refl;
  kept = subst (λ (e : ℕ). AreKept (node_flow (no_nodes {F = Fact} most_facts)) 0 [] e k) count (kept (node_flow (no_nodes {F = Fact} most_facts)));
})

-- the report as it stands at first
pub shown-first : (routers network : List ConfigView) (marks seen : ElementMarks) (shown : List Sheet) → network ≡ routers → seen ≡ marks
    → shown ≡ sheets_from network seen 0 network → shown ≡ sheets_from routers marks 0 routers
shown-first routers network marks seen shown net same is =
    is ∙ ap (λ (cs : List ConfigView). sheets_from cs seen 0 cs) net ∙ ap (λ (m : ElementMarks). sheets_from routers m 0 routers) same

-- the report as it stands, after the marks of touched elements changed
pub shown-more : (routers network : List ConfigView) (old new seen : ElementMarks) (touched listed : List ℕ) (before after : List Sheet)
    → network ≡ routers → seen ≡ new → listed ≡ touched → marked_elements old ≡ element_count routers → TouchesOnly touched old new → before ≡ sheets_from routers old 0 routers
    → ((m : ElementMarks) → marked_elements m ≡ element_count network → TouchesOnly listed m seen → before ≡ sheets_from network m 0 network → after ≡ sheets_from network seen 0 network)
    → after ≡ sheets_from routers new 0 routers
shown-more routers network old new seen touched listed before after net marks list count touches is made =
    subst (λ (cs : List ConfigView). after ≡ sheets_from cs new 0 cs) net (subst (λ (m : ElementMarks). after ≡ sheets_from network m 0 network) marks
    (made old (count ∙ ap element_count (sym net)) (subst (λ (xs : List ℕ). TouchesOnly xs old seen) (sym list) (subst (λ (m : ElementMarks). TouchesOnly touched old m) (sym marks) touches))
    (subst (λ (cs : List ConfigView). before ≡ sheets_from cs old 0 cs) (sym net) is)))
