-- What a line draws: parts of the tests about which it asks.
use Rattle.std.proofs.Common.{◌≡◌, ℕ, inl, inr, List, [], ◌∷◌, ◌++◌, map, Option, Some, Contains, sym, refl, ◌∙◌, subst, arith}
use Rattle.nc_graph.specs.declared.node.NodeId.{NodeId}
use Rattle.nc_graph.specs.Flow.{IsFlow}
use Rattle.nc_graph.specs.Nodes.{Nodes, node_flow, IsGraph, Mirrors, AreNodesOf}
use Rattle.nc_diagram.specs.Diagrams.{Diagrams}
use Rattle.nc_formula.specs.Parts.{IsBaseOfTest, IsBaseOfBoth, Gains}
use Rattle.nc_formula.proofs.GainLemmas.{Bases, Within, gains-none, gains-wider}
use Rattle.nc_formula.proofs.SessionLemmas.{test-bases-of-facts}
use Rattle.nc_tables.specs.State.{StateView}
use Rattle.nc_fact.specs.declared.fact.Fact.{Fact}
use Rattle.nc_rules.specs.Rules.{flow_of}
use Rattle.nc_rules.specs.Seen.{state_of}
use Rattle.nc_engine.specs.declared.work.Work.{Work}
use Rattle.nc_command.specs.declared.command.Command.TheVariants.{Implies, Cut}
use Rattle.nc_command.specs.Command.{Asks}
use Rattle.nc_engine.specs.Session.{live_place, test_in}
use Rattle.nc_engine.specs.Engine.{DrawsFor, asked_about, facts_at}
use Rattle.nc_engine.specs.Work.{Draws, tests_of}

-- the bases of some of the tests
abbrev IsBaseOfSome : StateView → List (List Fact) → Bases
IsBaseOfSome s tests base = (facts : List Fact) × Contains tests facts × IsBaseOfTest (flow_of s) facts base

-- nothing is drawn
pub draws-none : (s : StateView) (tests : List (List Fact)) (d : Diagrams) → DrawsFor s tests d d
draws-none s tests d = gains-none (IsBaseOfSome s tests) d

pub draws-same : (s : StateView) (tests : List (List Fact)) (old new : Diagrams) → new ≡ old → DrawsFor s tests old new
draws-same s tests old new same = subst (DrawsFor s tests old) (sym same) (draws-none s tests old)

pub draws-so : (old new : Work) (tests : List (List Fact)) → Draws old new tests → DrawsFor (state_of old.rules) tests old.store new.store
draws-so old new tests (inl same) = draws-same (state_of old.rules) tests old.store new.store same
draws-so old new tests (inr draws) = draws

-- what is drawn from where all is as before
pub draws-before : (old now new : Work) (tests : List (List Fact)) → state_of now.rules ≡ state_of old.rules → now.store ≡ old.store → Draws now new tests → Draws old new tests
draws-before old now new tests state store (inl same) = inl (same ∙ store)
draws-before old now new tests state store (inr draws) =
    inr (subst (λ (d : Diagrams). DrawsFor (state_of old.rules) tests d new.store) store (subst (λ (s : StateView). DrawsFor s tests now.store new.store) state draws))

-- what is drawn for tests by their places is drawn for them by their numbers
pub draws-question : (old new : Work) (m n first second : ℕ) → live_place (tests_of old) m ≡ Some first → live_place (tests_of old) n ≡ Some second
    → Draws old new ((test_in (tests_of old) first).facts ∷ (test_in (tests_of old) second).facts ∷ []) → Draws old new (asked_about (tests_of old) (Asks (Implies m n)))
draws-question old new m n first second here there draws =
    subst (λ (o : Option ℕ). Draws old new (facts_at (tests_of old) o ++ facts_at (tests_of old) (live_place (tests_of old) n))) (sym here)
    (subst (λ (o : Option ℕ). Draws old new ((test_in (tests_of old) first).facts ∷ facts_at (tests_of old) o)) (sym there) draws)

pub draws-cut : (old new : Work) (n : ℕ) (names : List (List ℕ)) (place : ℕ) → live_place (tests_of old) n ≡ Some place
    → Draws old new ((test_in (tests_of old) place).facts ∷ []) → Draws old new (asked_about (tests_of old) (Asks (Cut n names)))
draws-cut old new n names place here draws = subst (λ (o : Option ℕ). Draws old new (facts_at (tests_of old) o)) (sym here) draws

module _ (s : StateView) (law : IsFlow (flow_of s)) (n : Nodes Fact) (is : IsGraph n) (m : Mirrors (flow_of s) n) (old new : Diagrams) where
  bases-of : (tests : List (List Fact)) (facts : List Fact) → Contains tests facts → (ids : List NodeId) → AreNodesOf n ids facts
      → Within (IsBaseOfTest (node_flow n) (map (λ p. p.0) ids)) (IsBaseOfSome s tests)
  bases-of tests facts among ids nodes b w = (facts, among, test-bases-of-facts (flow_of s) law n is m ids facts nodes b w)

  -- the diagram of a test, and a comparison of two
  pub draws-test : (facts : List Fact) (ids : List NodeId) → AreNodesOf n ids facts → Gains (IsBaseOfTest (node_flow n) (map (λ p. p.0) ids)) old new
      → DrawsFor s (facts ∷ []) old new
  draws-test facts ids nodes gains =
      gains-wider (IsBaseOfTest (node_flow n) (map (λ p. p.0) ids)) (IsBaseOfSome s (facts ∷ [])) old new (bases-of (facts ∷ []) facts (0, omega arith, refl) ids nodes) gains

  pub draws-both : (left right : List Fact) (first second : List NodeId) → AreNodesOf n first left → AreNodesOf n second right
      → Gains (IsBaseOfBoth (node_flow n) (map (λ p. p.0) first) (map (λ p. p.0) second)) old new → DrawsFor s (left ∷ right ∷ []) old new
  draws-both left right first second lefts rights gains =
      gains-wider (IsBaseOfBoth (node_flow n) (map (λ p. p.0) first) (map (λ p. p.0) second)) (IsBaseOfSome s (left ∷ right ∷ [])) old new (λ b w. elim w [
        | inl l ↦ bases-of (left ∷ right ∷ []) left (0, omega arith, refl) first lefts b l
        | inr r ↦ bases-of (left ∷ right ∷ []) right (1, omega arith, refl) second rights b r
      ]) gains
