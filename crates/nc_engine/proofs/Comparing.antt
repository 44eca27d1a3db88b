-- The tests of a question: their facts and nodes, and what their comparison by nodes says of them.
use Rattle.std.proofs.Common.{◌≡◌, ℕ, zero, suc, ◌<◌, true, List, [], ◌∷◌, ◌++◌, length, map, get_or, Option, Some, None, MatchOption, inl, inr, refl, sym, ap, ◌∙◌, subst, arith}
use Rattle.std.specs.Prelude.{slice_get}
use Rattle.std.specs.List.Sorted.{IsStrictlyIncreasing}
use Rattle.std.proofs.lemmas.List.Elements.{All-nil, All-cons, All-head, All-tail, All-get_or}
use Rattle.nc_graph.specs.Flow.{Flow}
use Rattle.nc_graph.specs.Nodes.{Nodes, Mirrors, AreNodesOf}
use Rattle.nc_graph.specs.declared.node.NodeId.{NodeId}
use Rattle.nc_diagram.specs.Sets.{all_but}
use Rattle.nc_fact.specs.declared.fact.Fact.{Fact}
use Rattle.nc_engine.specs.declared.work.KeptTest.{KeptTest as Made}
use Rattle.nc_types.specs.Config.{ConfigView}
use Rattle.nc_rules.specs.Rules.{flow_of}
use Rattle.nc_rules.specs.Seen.{state_of, asked_of}
use Rattle.nc_engine.specs.declared.work.Work.{Work}
use Rattle.nc_engine.specs.Questions.{IsGreatestApart, no_of}
use Rattle.nc_engine.specs.Engine.{DrawsFor}
use Rattle.nc_engine.specs.Session.{KeptTest, test_in, with_pair}
use Rattle.nc_engine.specs.Work.{HaveNodes, SameNetwork, Compared, test_view, tests_of, kept_of}
use Rattle.nc_engine.proofs.Carrying.{Hold}
use Rattle.nc_engine.proofs.Fewer.{seen-at}

-- the facts of the test at a place
pub posed-at : (tests : List KeptTest) (place : ℕ) → place < length tests → slice_get (map (λ t. t.facts) tests) place ≡ Some (test_in tests place).facts
posed-at [] place lt = absurd (omega arith)
posed-at (t ∷ tests) zero lt = refl
posed-at (t ∷ tests) (suc place) lt = posed-at tests place (omega arith)

-- its nodes are those of its facts
pub nodes-at : (n : Nodes Fact) (tests : List Made) (place : ℕ) (t : Made) → place < length tests → t ≡ get_or tests place t → HaveNodes n tests → AreNodesOf n t.nodes.items (test_in (map test_view tests) place).facts
nodes-at n tests place t lt at have =
    subst (λ (k : KeptTest). AreNodesOf n t.nodes.items k.facts) (seen-at tests place t lt at)
    (subst (λ (u : Made). AreNodesOf n u.nodes.items u.facts.items) (sym at) (All-get_or (λ (u : Made). AreNodesOf n u.nodes.items u.facts.items) tests place t lt have))

pub ids-at : (n : Nodes Fact) (tests : List Made) (place : ℕ) (t : Made) (ids : List NodeId) → place < length tests → t ≡ get_or tests place t → ids ≡ t.nodes.items → HaveNodes n tests
    → AreNodesOf n ids (test_in (map test_view tests) place).facts
ids-at n tests place t ids lt at same have =
    subst (λ (is : List NodeId). AreNodesOf n is (test_in (map test_view tests) place).facts) (sym same) (nodes-at n tests place t lt at have)

-- facts that have nodes hold
pub nodes-hold : (g : Flow Fact) (n : Nodes Fact) → Mirrors g n → (ids : List NodeId) (fs : List Fact) → AreNodesOf n ids fs → Hold g fs
nodes-hold g n mirrors ids [] are = All-nil (λ f. g.holds f ≡ true)
nodes-hold g n mirrors [] (f ∷ fs) are = absurd cc
nodes-hold g n mirrors (id ∷ ids) (f ∷ fs) are =
    let first : slice_get n.facts id.0 ≡ Some f = cc in
    let rest : map (λ p. slice_get n.facts p.0) ids ≡ map Some fs = cc in
    All-cons (λ h. g.holds h ≡ true) f fs (mirrors.each id.0 f first).holds (nodes-hold g n mirrors ids fs rest)

-- so the facts of each test do
pub facts-hold : (g : Flow Fact) (n : Nodes Fact) → Mirrors g n → (tests : List Made) (place : ℕ) → HaveNodes n tests → Hold g (test_in (map test_view tests) place).facts
facts-hold g n mirrors [] place have = All-nil (λ f. g.holds f ≡ true)
facts-hold g n mirrors (t ∷ tests) zero have = nodes-hold g n mirrors t.nodes.items t.facts.items (All-head (λ (u : Made). AreNodesOf n u.nodes.items u.facts.items) t tests have)
facts-hold g n mirrors (t ∷ tests) (suc place) have = facts-hold g n mirrors tests place (All-tail (λ (u : Made). AreNodesOf n u.nodes.items u.facts.items) t tests have)

-- what is said of an option, less of it
pub option-weaker : {A : Type 0} (P Q : Type 0) (R S : A → Type 0) → (P → Q) → ((x : A) → R x → S x) → (o : Option A) → MatchOption o P R → MatchOption o Q S
option-weaker P Q R S none some None is = none is
option-weaker P Q R S none some (Some x) is = some x is

-- the answer that the first test doesn't imply the second
pub compared-no : (old new : Work) → SameNetwork old new → asked_of new.rules ≡ asked_of old.rules → (i j m n : ℕ)
    → DrawsFor (state_of old.rules) ((test_in (tests_of old) i).facts ∷ (test_in (tests_of old) j).facts ∷ []) old.store new.store → kept_of new ≡ with_pair (kept_of old) i j → (missing listed : List ℕ) → IsStrictlyIncreasing missing
    → IsGreatestApart (flow_of (state_of old.rules)) (test_in (tests_of old) i).facts (test_in (tests_of old) j).facts (all_but missing) → listed ≡ missing
    → (routers : List ConfigView) → routers ≡ (state_of old.rules).routers → (before after : List ℕ) → after ≡ before ++ no_of routers m n listed → Compared old new i j m n before after
compared-no old new network asked i j m n draws kept missing listed ascend most list routers net before after text = record {
  reply = no_of (state_of old.rules).routers m n missing;
  answer = inl (inr (record { missing = missing; ascend = ascend; greatest = most; text = refl }), kept);
  text = text ∙ ap (λ (cs : List ConfigView). before ++ no_of cs m n listed) net ∙ ap (λ (l : List ℕ). before ++ no_of (state_of old.rules).routers m n l) list;
  network = network;
  infers = asked;
  draws = inr draws;
}
