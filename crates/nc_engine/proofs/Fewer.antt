-- What is left where a test is forgotten.
use Rattle.std.proofs.Common.{◌≡◌, ℕ, zero, suc, ◌-◌, ◌<◌, ◌≤◌, Bool, true, false, if◌then◌else◌, List, [], ◌∷◌, ◌++◌, length, map, get_or, Option, Some, None, inl, refl, sym, ap, ◌∙◌, subst, arith, append_assoc}
use Rattle.std.proofs.Math.ListN.{set}
use Rattle.std.proofs.Math.Seq.{map-set_same}
use Rattle.std.proofs.lemmas.List.{map-set, get_or-map, get_or_past}
use Rattle.std.proofs.lemmas.List.Elements.{All-head, All-tail, All-set, All-get_or}
use Rattle.nc_types.specs.Network.{element_count}
use Rattle.nc_graph.specs.Closure.{IsClosure}
use Rattle.nc_graph.specs.Nodes.{Nodes, AreNodesOf, node_flow}
use Rattle.nc_graph.specs.declared.node.NodeId.{NodeId}
use Rattle.nc_marks.specs.Kept.{Kept, AreKept}
use Rattle.nc_tables.specs.State.{StateView}
use Rattle.nc_fact.specs.declared.fact.Fact.{Fact}
use Rattle.nc_rules.specs.Rules.{flow_of}
use Rattle.nc_engine.specs.declared.work.KeptTest.{KeptTest as Made}
use Rattle.nc_rules.specs.Seen.{state_of, asked_of}
use Rattle.nc_engine.specs.declared.work.Work.{Work}
use Rattle.nc_engine.specs.Session.{KeptTest, State, test_in, live_place, without_test, posed_in, asked_in, live_in, forgot_of, IsReported, Forgets}
use Rattle.nc_engine.specs.Work.{IsMarked, SameNetwork, HaveNodes, Forgotten, nodes_in, test_view, tests_of, kept_of}
use Rattle.nc_engine.proofs.Closing.{nodes-append}
use Rattle.nc_engine.proofs.Working.{numbers}
use Rattle.nc_engine.proofs.Replying.{Reported}

-- a test that was live
abbrev pub dead : KeptTest → KeptTest
dead t = record { facts = t.facts; live = false }

-- its facts stay asked
pub asked-fewer : (tests : List KeptTest) (place : ℕ) → asked_in (set tests place (dead (test_in tests place))) ≡ asked_in tests
asked-fewer [] place = refl
asked-fewer (t ∷ tests) zero = refl
asked-fewer (t ∷ tests) (suc place) = ap (λ (fs : List Fact). t.facts ++ fs) (asked-fewer tests place)

pub posed-fewer : (old : State) (place : ℕ) → posed_in (without_test old place) ≡ posed_in old
posed-fewer old place = ap (λ (tests : List (List Fact)). record { tests = tests; pairs = old.pairs })
    (map-set_same (λ (t : KeptTest). t.facts) old.tests place (dead (test_in old.tests place)) (record { facts = []; live = false }) refl)

-- the nodes of the live tests are those of their facts
pub live-nodes : (n : Nodes Fact) (tests : List Made) → HaveNodes n tests → AreNodesOf n (nodes_in tests) (live_in (map test_view tests))
live-nodes n [] have = refl
live-nodes n (t ∷ tests) have =
    nodes-append n (if t.live then t.nodes.items else []) (nodes_in tests) (if t.live then t.facts.items else []) (live_in (map test_view tests))
    (on t.live) (live-nodes n tests (All-tail (λ (u : Made). AreNodesOf n u.nodes.items u.facts.items) t tests have))
  where
    on : (live : Bool) → AreNodesOf n (if live then t.nodes.items else []) (if live then t.facts.items else [])
    on true = All-head (λ (u : Made). AreNodesOf n u.nodes.items u.facts.items) t tests have
    on false = refl

-- a test, as it is seen
pub seen-at : (tests : List Made) (place : ℕ) (test : Made) → place < length tests → test ≡ get_or tests place test → test_view test ≡ test_in (map test_view tests) place
seen-at tests place test lt at = sym (get_or-map test_view tests place test (record { facts = []; live = false }) lt ∙ ap test_view (sym at))

-- a number past all tests has none, and any other that of its test, if it is live
pub no-place : (tests : List KeptTest) (number : ℕ) → (number ≡ 0 → ⊥) → length tests ≤ number - 1 → live_place tests number ≡ None
no-place tests zero some past = absurd (some refl)
no-place tests (suc place) some past =
    ap (λ (t : KeptTest). if t.live then Some place else None) (get_or_past tests place (record { facts = []; live = false }) (omega (arith, past)))

pub a-place : (tests : List KeptTest) (number : ℕ) (live : Bool) → (number ≡ 0 → ⊥) → (test_in tests (number - 1)).live ≡ live → live_place tests number ≡ (if live then Some (number - 1) else None)
a-place tests zero live some is = absurd (some refl)
a-place tests (suc place) live some is =
    let same : suc place - 1 ≡ place = omega arith in
    ap (λ (b : Bool). if b then Some place else None) (ap (λ (k : ℕ). (test_in tests k).live) (sym same) ∙ is) ∙ ap (λ (k : ℕ). if live then Some k else None) (sym same)

-- a test that isn't live anymore, as it is seen
pub fewer-view : (tests : List Made) (place : ℕ) (test new : Made) → place < length tests → test ≡ get_or tests place test → test_view new ≡ dead (test_view test)
    → map test_view (set tests place new) ≡ set (map test_view tests) place (dead (test_in (map test_view tests) place))
fewer-view tests place test new lt at is =
    map-set test_view tests place new ∙ ap (λ (t : KeptTest). set (map test_view tests) place t) (is ∙ ap dead (seen-at tests place test lt at))

-- the tests that are kept, where the one at a place isn't live anymore
abbrev pub after : Work → ℕ → Made → List Made
after w place t = set w.tests.items place (record { facts = t.facts; nodes = t.nodes; live = false })

module _ (w : Work) (place : ℕ) (t : Made) (lt : place < length w.tests.items) (at : t ≡ get_or w.tests.items place t) where
  pub after-view : ◌≡◌ {A = State} (record { tests = map test_view (after w place t); pairs = w.pairs.items }) (without_test (kept_of w) place)
  after-view = ap (λ (ts : List KeptTest). record { tests = ts; pairs = w.pairs.items }) (fewer-view w.tests.items place t (record { facts = t.facts; nodes = t.nodes; live = false }) lt at refl)

  pub after-nodes : HaveNodes w.graph w.tests.items → HaveNodes w.graph (after w place t)
  after-nodes have = All-set (λ (u : Made). AreNodesOf w.graph u.nodes.items u.facts.items) w.tests.items place (record { facts = t.facts; nodes = t.nodes; live = false })
      (subst (λ (u : Made). AreNodesOf w.graph u.nodes.items u.facts.items) (sym at) (All-get_or (λ (u : Made). AreNodesOf w.graph u.nodes.items u.facts.items) w.tests.items place t lt have)) have

  -- the nodes of the live ones among them
  pub after-live : HaveNodes w.graph w.tests.items → (ids : List NodeId) → ids ≡ nodes_in (after w place t) → AreNodesOf w.graph ids (live_in (map test_view (after w place t)))
  after-live have ids is = subst (λ (list : List NodeId). AreNodesOf w.graph list (live_in (map test_view (after w place t)))) (sym is) (live-nodes w.graph (after w place t) (after-nodes have))

-- the marks of fewer live tests
pub marked-fewer : (s : StateView) (tests left : List KeptTest) (n : Nodes Fact) (old new : Kept) → IsMarked s tests n old → asked_in left ≡ asked_in tests
    → (ids : List NodeId) → AreNodesOf n ids (live_in left) → AreKept (node_flow n) (length n.facts) (numbers ids) (element_count s.routers) new → IsMarked s left n new
marked-fewer s tests left n old new marked same ids are kept = record {
  mirrors = marked.mirrors;
  closure = subst (λ (fs : List Fact). IsClosure (flow_of s) fs n.facts) (sym same) marked.closure;
  limit = marked.limit;
  nodes = ids;
  are_nodes = are;
  kept = kept;
}

-- the reply where the test at a place was forgotten
pub forgotten : (old new : Work) → SameNetwork old new → (place number : ℕ) → live_place (tests_of old) number ≡ Some place → kept_of new ≡ without_test (kept_of old) place → asked_of new.rules ≡ asked_of old.rules → new.store ≡ old.store
    → (before mid after : List ℕ) → mid ≡ before ++ forgot_of number → Reported new mid after → Forgotten old new number before after
forgotten old new network place number at kept asked store before mid after first rest = record {
  reply = forgot_of number ++ rest.reply;
  answer = subst (λ (o : Option ℕ). Forgets (state_of old.rules) old.listed o (kept_of old) number (forgot_of number ++ rest.reply) (kept_of new)) (sym at) (kept, reported);
  text = rest.text ∙ ap (λ (l : List ℕ). l ++ rest.reply) first ∙ append_assoc before (forgot_of number) rest.reply;
  network = network;
  infers = asked;
  draws = inl store;
}
  where
    reported : IsReported (state_of old.rules) old.listed (tests_of new) (forgot_of number) (forgot_of number ++ rest.reply)
    reported = subst (λ (l : Bool). IsReported (state_of old.rules) l (tests_of new) (forgot_of number) (forgot_of number ++ rest.reply)) network.listed
        (subst (λ (s : StateView). IsReported s new.listed (tests_of new) (forgot_of number) (forgot_of number ++ rest.reply)) network.state
        (record { report = rest.reply; is_report = rest.is_reply; text = refl }))
