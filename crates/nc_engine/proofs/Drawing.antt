-- The tests of answered questions: the formulas of all their nodes are known, and stay known.
use Rattle.std.proofs.Common.{◌≡◌, ℕ, zero, suc, ◌<◌, false, List, [], ◌∷◌, ◌++◌, length, map, get_or, Option, Some, None, Result, Ok, Err, OnOk, All, Contains, inl, inr, refl, sym, ap, ◌∙◌, subst, arith}
use Rattle.std.specs.Prelude.{slice_get}
use Rattle.std.proofs.Math.ListN.{set}
use Rattle.std.proofs.lemmas.Option.{slice_get_read, slice_get_within, get_or_from_slice_get}
use Rattle.std.proofs.lemmas.List.Elements.{All-nil, All-cons, All-head, All-tail, All-weaker, All-get_or}
use Rattle.nc_graph.specs.Flow.{IsFlow}
use Rattle.nc_graph.specs.Nodes.{Nodes, IsGraph, AreNodesOf}
use Rattle.nc_graph.specs.declared.node.NodeId.{NodeId}
use Rattle.nc_graph.proofs.NodeLemmas.{slice_get-left}
use Rattle.nc_graph.proofs.NodeLaws.{carried-node}
use Rattle.nc_diagram.specs.Sets.{has}
use Rattle.nc_diagram.specs.Diagrams.{Means}
use Rattle.nc_formula.specs.Parts.{carrying}
use Rattle.nc_formula.specs.Formulas.{IsKnown, StillKnown, known}
use Rattle.nc_fact.specs.declared.fact.Fact.{Fact}
use Rattle.nc_rules.specs.Rules.{flow_of}
use Rattle.nc_rules.specs.Seen.{state_of}
use Rattle.nc_report.specs.Views.{FileView}
use Rattle.nc_engine.specs.declared.work.KeptTest.{KeptTest as Made}
use Rattle.nc_engine.specs.declared.work.Work.{Work}
use Rattle.nc_engine.specs.Session.{KeptTest, test_in}
use Rattle.nc_command.specs.declared.command.Command.TheVariants.{Test, Forget, Implies, Cut, Suite, Dead, Show, Lcov, Json, Quit}
use Rattle.nc_command.specs.Command.{Line, Passed, TooLong, Unread, Asks}
use Rattle.nc_engine.specs.Engine.{Progress, IsDrawn, HasDrawn, HasDrawnFor, HasReferences, IsRefusal}
use Rattle.nc_engine.specs.Work.{IsWork, IsDrawnAt, IsDrawnFor, IsDrawnOrRefused, HaveNodes, drawn_in, test_view, progress_of}

-- a comparison makes those of both tests
pub drawn-at : {T E : Type 0} → (r : Result T E) (formulas : List (Option ℕ)) (tests : List Made) (first second : ℕ) (left right : Made) → first < length tests → second < length tests
    → left ≡ get_or tests first left → right ≡ get_or tests second right → (lefts rights : List NodeId) → lefts ≡ left.nodes.items → rights ≡ right.nodes.items
    → OnOk r (All (λ p. IsKnown formulas p.0) lefts) → OnOk r (All (λ p. IsKnown formulas p.0) rights) → OnOk r (IsDrawnFor formulas tests (first, second))
drawn-at (Err e) formulas tests first second left right inside within here there lefts rights same alike known is_known = tt
drawn-at (Ok x) formulas tests first second left right inside within here there lefts rights same alike known is_known = (
  record { test = left; at = slice_get_read tests (length tests) first left refl inside here; known = subst (λ ids. All (λ (p : NodeId). IsKnown formulas p.0) ids) same known },
  record { test = right; at = slice_get_read tests (length tests) second right refl within there; known = subst (λ ids. All (λ (p : NodeId). IsKnown formulas p.0) ids) alike is_known },
)

-- the diagram of a test makes those of the test
pub test-drawn : {T E : Type 0} → (r : Result T E) (formulas : List (Option ℕ)) (tests : List Made) (place : ℕ) (t : Made) → place < length tests → t ≡ get_or tests place t
    → (ids : List NodeId) → ids ≡ t.nodes.items → OnOk r (All (λ p. IsKnown formulas p.0) ids) → OnOk r (IsDrawnAt formulas tests place)
test-drawn (Err e) formulas tests place t lt at ids same known = tt
test-drawn (Ok x) formulas tests place t lt at ids same known =
    record { test = t; at = slice_get_read tests (length tests) place t refl lt at; known = subst (λ ids. All (λ (p : NodeId). IsKnown formulas p.0) ids) same known }

-- with more tests behind
drawn-longer : (formulas : List (Option ℕ)) (tests more : List Made) (place : ℕ) → IsDrawnAt formulas tests place → IsDrawnAt formulas (tests ++ more) place
drawn-longer formulas tests more place d = record { test = d.test; at = slice_get-left tests more place d.test d.at; known = d.known }

pub answered-longer : (formulas : List (Option ℕ)) (tests more : List Made) (pairs : List (ℕ × ℕ)) → All (IsDrawnFor formulas tests) pairs → All (IsDrawnFor formulas (tests ++ more)) pairs
answered-longer formulas tests more pairs all =
    All-weaker (IsDrawnFor formulas tests) (IsDrawnFor formulas (tests ++ more)) (λ q d. (drawn-longer formulas tests more q.0 d.0, drawn-longer formulas tests more q.1 d.1)) pairs all

-- with more formulas
drawn-still : (old new : List (Option ℕ)) → StillKnown old new → (tests : List Made) (place : ℕ) → IsDrawnAt old tests place → IsDrawnAt new tests place
drawn-still old new still tests place d =
    record { test = d.test; at = d.at; known = All-weaker (λ (p : NodeId). IsKnown old p.0) (λ p. IsKnown new p.0) (λ p is. (is.0, still p.0 is.0 is.1)) d.test.nodes.items d.known }

pub answered-still : (old new : List (Option ℕ)) → StillKnown old new → (tests : List Made) (pairs : List (ℕ × ℕ)) → All (IsDrawnFor old tests) pairs → All (IsDrawnFor new tests) pairs
answered-still old new still tests pairs all =
    All-weaker (IsDrawnFor old tests) (IsDrawnFor new tests) (λ q d. (drawn-still old new still tests q.0 d.0, drawn-still old new still tests q.1 d.1)) pairs all

-- with one test less that is live
drawn-fewer : (formulas : List (Option ℕ)) (tests : List Made) (place : ℕ) (t : Made) → place < length tests → t ≡ get_or tests place t
    → (k : ℕ) → IsDrawnAt formulas tests k → IsDrawnAt formulas (set tests place (record { facts = t.facts; nodes = t.nodes; live = false })) k
drawn-fewer formulas [] place t lt at k d = absurd (omega arith)
drawn-fewer formulas (u ∷ tests) zero t lt at zero d =
    let is : u ≡ d.test = cc in
    record {
      test = record { facts = t.facts; nodes = t.nodes; live = false };
      at = refl;
      known = subst (λ (x : Made). All (λ p. IsKnown formulas p.0) x.nodes.items) (sym is ∙ sym at) d.known;
    }
drawn-fewer formulas (u ∷ tests) zero t lt at (suc k) d = record { test = d.test; at = d.at; known = d.known }
drawn-fewer formulas (u ∷ tests) (suc place) t lt at zero d = record { test = d.test; at = d.at; known = d.known }
drawn-fewer formulas (u ∷ tests) (suc place) t lt at (suc k) d =
    let rest = drawn-fewer formulas tests place t (omega arith) at k (record { test = d.test; at = d.at; known = d.known }) in
    record { test = rest.test; at = rest.at; known = rest.known }

pub answered-fewer : (formulas : List (Option ℕ)) (tests : List Made) (place : ℕ) (t : Made) → place < length tests → t ≡ get_or tests place t
    → (pairs : List (ℕ × ℕ)) → All (IsDrawnFor formulas tests) pairs → All (IsDrawnFor formulas (set tests place (record { facts = t.facts; nodes = t.nodes; live = false }))) pairs
answered-fewer formulas tests place t lt at pairs all =
    All-weaker (IsDrawnFor formulas tests) (IsDrawnFor formulas (set tests place (record { facts = t.facts; nodes = t.nodes; live = false })))
    (λ q d. (drawn-fewer formulas tests place t lt at q.0 d.0, drawn-fewer formulas tests place t lt at q.1 d.1)) pairs all

-- a fact whose node has a formula is among the facts that have one
drawn-has : (facts : List Fact) (formulas : List (Option ℕ)) (i : ℕ) (f : Fact) → slice_get facts i ≡ Some f → IsKnown formulas i → Contains (drawn_in facts formulas) f
unfolding drawn_in
drawn-has [] formulas i f at is = absurd cc
drawn-has (g ∷ facts) [] i f at is = let none : ◌≡◌ {A = Option ℕ} None (Some is.0) = is.1 in absurd cc
drawn-has (g ∷ facts) (None ∷ formulas) zero f at is = let none : ◌≡◌ {A = Option ℕ} None (Some is.0) = is.1 in absurd cc
drawn-has (g ∷ facts) (None ∷ formulas) (suc i) f at is = drawn-has facts formulas i f at is
drawn-has (g ∷ facts) (Some r ∷ formulas) zero f at is = let same : g ≡ f = cc in (0, omega arith, same)
drawn-has (g ∷ facts) (Some r ∷ formulas) (suc i) f at is =
    let rest = drawn-has facts formulas i f at is in
    (suc rest.0, omega (arith, rest.1), rest.2)

-- what holds of each fact whose node has a formula holds of all that have one
drawn-all : (P : Fact → Type 0) (facts : List Fact) (formulas : List (Option ℕ)) → ((i : ℕ) (f : Fact) → slice_get facts i ≡ Some f → IsKnown formulas i → P f) → All P (drawn_in facts formulas)
unfolding drawn_in
drawn-all P [] formulas each = All-nil P
drawn-all P (g ∷ facts) [] each = All-nil P
drawn-all P (g ∷ facts) (None ∷ formulas) each = drawn-all P facts formulas (λ i f at is. each (suc i) f at is)
drawn-all P (g ∷ facts) (Some r ∷ formulas) each = All-cons P g (drawn_in facts formulas) (each zero g refl (r, refl)) (drawn-all P facts formulas (λ i f at is. each (suc i) f at is))

facts-drawn : (n : Nodes Fact) (formulas : List (Option ℕ)) (ids : List NodeId) (fs : List Fact) → AreNodesOf n ids fs → All (λ p. IsKnown formulas p.0) ids → All (Contains (drawn_in n.facts formulas)) fs
facts-drawn n formulas [] [] are all = All-nil (Contains (drawn_in n.facts formulas))
facts-drawn n formulas [] (f ∷ fs) are all = absurd cc
facts-drawn n formulas (id ∷ ids) [] are all = absurd cc
facts-drawn n formulas (id ∷ ids) (f ∷ fs) are all =
    let first : slice_get n.facts id.0 ≡ Some f = cc in
    let rest : map (λ p. slice_get n.facts p.0) ids ≡ map Some fs = cc in
    All-cons (Contains (drawn_in n.facts formulas)) f fs (drawn-has n.facts formulas id.0 f first (All-head (λ (p : NodeId). IsKnown formulas p.0) id ids all))
    (facts-drawn n formulas ids fs rest (All-tail (λ (p : NodeId). IsKnown formulas p.0) id ids all))

-- the test at a place, as it is seen
seen : (tests : List Made) (place : ℕ) (t : Made) → slice_get tests place ≡ Some t → test_view t ≡ test_in (map test_view tests) place
seen [] place t at = absurd cc
seen (u ∷ tests) zero t at = let same : u ≡ t = cc in ap test_view (sym same)
seen (u ∷ tests) (suc place) t at = seen tests place t at

-- its nodes are those of its facts
nodes-there : (n : Nodes Fact) (tests : List Made) (place : ℕ) (t : Made) → slice_get tests place ≡ Some t → HaveNodes n tests → AreNodesOf n t.nodes.items t.facts.items
nodes-there n tests place t at have =
    subst (λ (u : Made). AreNodesOf n u.nodes.items u.facts.items) (get_or_from_slice_get tests place t t at)
    (All-get_or (λ (u : Made). AreNodesOf n u.nodes.items u.facts.items) tests place t (slice_get_within tests place t at) have)

module _ (files : List FileView) (w : Work) (work : IsWork w) where
  drawn-there : (place : ℕ) → IsDrawnAt w.formulas w.tests.items place → IsDrawn (progress_of files w) place
  drawn-there place d =
      subst (λ (t : KeptTest). All (Contains (drawn_in w.graph.facts w.formulas)) t.facts) (seen w.tests.items place d.test d.at)
      (facts-drawn w.graph w.formulas d.test.nodes.items d.test.facts.items (nodes-there w.graph w.tests.items place d.test d.at work.nodes) d.known)

  -- of each fact of which an engine has a diagram there is a reference
  pub has-references : IsFlow (flow_of (state_of w.rules)) → IsGraph w.graph → HasReferences (progress_of files w)
  has-references law graph = drawn-all (λ fact. (r : ℕ) × Means w.store r (carrying (flow_of (state_of w.rules)) fact)) w.graph.facts w.formulas
      (λ i f at is.
      let d = work.drawn.formulas.each i is.0 is.1 in
      (is.0, record { belongs = d.belongs; means = λ set. d.means set ∙ carried-node (flow_of (state_of w.rules)) law w.graph graph work.marked.mirrors (has set) i f at }))

  -- an engine has the diagrams of the tests of each question that was answered
  pub has-drawn : HasDrawn (progress_of files w)
  has-drawn =
      All-weaker (IsDrawnFor w.formulas w.tests.items) (λ q. IsDrawn (progress_of files w) q.0 × IsDrawn (progress_of files w) q.1)
      (λ q d. (drawn-there q.0 d.0, drawn-there q.1 d.1)) w.pairs.items work.answered

  -- and those of the test of a cut that is told
  pub drawn-for : (number : ℕ) (names : List (List ℕ)) (before after : List ℕ) → IsDrawnOrRefused w number before after → HasDrawnFor (progress_of files w) (Asks (Cut number names)) before after
  drawn-for number names before after drawn = λ place at. elim (drawn place at) [ inl there ↦ inl (drawn-there place there) | inr refusal ↦ inr refusal ]

-- where the reply goes to the end of other bytes
refusal-behind : (before reply after : List ℕ) → after ≡ before ++ reply → IsRefusal [] reply → IsRefusal before after
refusal-behind before reply after text refusal = (refusal.0, text ∙ ap (λ (r : List ℕ). before ++ r) refusal.1)

pub drawn-behind : (p : Progress) (line : Line) (before reply after : List ℕ) → after ≡ before ++ reply → HasDrawnFor p line [] reply → HasDrawnFor p line before after
drawn-behind p Passed before reply after text drawn = tt
drawn-behind p TooLong before reply after text drawn = tt
drawn-behind p Unread before reply after text drawn = tt
drawn-behind p (Asks Quit) before reply after text drawn = tt
drawn-behind p (Asks (Show name)) before reply after text drawn = tt
drawn-behind p (Asks Lcov) before reply after text drawn = tt
drawn-behind p (Asks Json) before reply after text drawn = tt
drawn-behind p (Asks Suite) before reply after text drawn = tt
drawn-behind p (Asks Dead) before reply after text drawn = tt
drawn-behind p (Asks (Test test)) before reply after text drawn = tt
drawn-behind p (Asks (Forget number)) before reply after text drawn = tt
drawn-behind p (Asks (Implies first second)) before reply after text drawn = tt
drawn-behind p (Asks (Cut number names)) before reply after text drawn =
    λ place at. elim (drawn place at) [ inl there ↦ inl there | inr refusal ↦ inr (refusal-behind before reply after text refusal) ]
