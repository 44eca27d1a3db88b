-- A session that has more parts than may be kept has them with more tests and questions too.
use Rattle.std.proofs.Common.{◌≡◌, ℕ, ◌⊎◌, inl, inr, Bool, true, false, List, [], ◌∷◌, ◌++◌, map, get_or, Option, Some, slice_get, sym, ap, subst, ◌∙◌}
use Rattle.std.specs.Prelude.{slice_index_or}
use Rattle.std.proofs.lemmas.List.{map_push}
use Rattle.std.proofs.lemmas.Bool.{true≢false}
use Rattle.std.proofs.lemmas.List.Elements.{Contains-append_left}
use Rattle.nc_graph.specs.declared.node.NodeId.{NodeId}
use Rattle.nc_graph.specs.Flow.{Flow, IsFlow}
use Rattle.nc_graph.specs.Nodes.{Nodes, node_flow, IsGraph, Mirrors, AreNodesOf}
use Rattle.nc_graph.proofs.Members.{get_in}
use Rattle.nc_graph.proofs.NodeLemmas.{slice_get-left}
use Rattle.nc_graph.proofs.WalkLemmas.{in-Contains}
use Rattle.nc_diagram.specs.Sets.{Members}
use Rattle.nc_diagram.specs.Diagrams.{Diagrams, meaning, IsHeld}
use Rattle.nc_formula.specs.Parts.{IsBaseOfBoth, IsFixed, IsCrowdedBy}
use Rattle.nc_formula.specs.Session.{Asked, with_test, with_question, IsSessionBase, of_test, of_pair, AreDrawn, HasMoreParts}
use Rattle.nc_formula.proofs.GainLemmas.{Bases, Within, fixed-wider, fixed-same}
use Rattle.nc_formula.proofs.SessionLemmas.{test-bases-of-facts}
use Rattle.nc_tables.specs.State.{StateView}
use Rattle.nc_fact.specs.declared.fact.Fact.{Fact}
use Rattle.nc_rules.specs.Rules.{flow_of}
use Rattle.nc_engine.specs.Limits.{most_parts}
use Rattle.nc_engine.specs.Session.{KeptTest, State, IsCrowded, with_pair, posed_in}

-- ---- more tests and questions

module _ (g : Flow Fact) (a b : Asked Fact) (within : Within (IsSessionBase g a) (IsSessionBase g b)) (n : ℕ) where
  more-parts : HasMoreParts g a n → HasMoreParts g b n
  more-parts c = record {
    functions = c.functions;
    more = c.more;
    distinct = c.distinct;
    parts = λ k d lt.
        let part = c.parts k d lt in
        record { is_fixed = fixed-wider (IsSessionBase g a) (IsSessionBase g b) within (get_or c.functions k d) part.is_fixed; varies = part.varies };
  }

module _ (g : Flow Fact) (a : Asked Fact) where
  bases-with-test : (t : List Fact) → Within (IsSessionBase g a) (IsSessionBase g (with_test a t))
  bases-with-test t b (of_test facts c w) = of_test facts (Contains-append_left a.tests (t ∷ []) facts c) w
  bases-with-test t b (of_pair i j first second c at next w) = of_pair i j first second c (slice_get-left a.tests (t ∷ []) i first at) (slice_get-left a.tests (t ∷ []) j second next) w

  bases-with-question : (k l : ℕ) → Within (IsSessionBase g a) (IsSessionBase g (with_question a k l))
  bases-with-question k l b (of_test facts c w) = of_test facts c w
  bases-with-question k l b (of_pair i j first second c at next w) = of_pair i j first second (Contains-append_left a.pairs ((k, l) ∷ []) (i, j) c) at next w

pub crowded-question : (s : StateView) (kept : State) (i j : ℕ) → IsCrowded s kept → IsCrowded s (with_pair kept i j)
crowded-question s kept i j = more-parts (flow_of s) (posed_in kept) (with_question (posed_in kept) i j) (bases-with-question (flow_of s) (posed_in kept) i j) most_parts

pub crowded-test : (s : StateView) (kept : State) (t : KeptTest) → IsCrowded s kept → IsCrowded s (record { tests = kept.tests ++ t ∷ []; pairs = kept.pairs })
crowded-test s kept t crowded =
    subst (λ (tests : List (List Fact)). HasMoreParts (flow_of s) (record { tests = tests; pairs = kept.pairs }) most_parts) (sym (map_push (λ (u : KeptTest). u.facts) kept.tests t))
    (more-parts (flow_of s) (posed_in kept) (with_test (posed_in kept) t.facts) (bases-with-test (flow_of s) (posed_in kept) t.facts) most_parts crowded)

-- no flag is raised among none
pub none_raised : (flags : List Bool) → flags ≡ [] → (place : ℕ) → slice_index_or flags place false ≡ true → ⊥
none_raised flags none place raised = true≢false (sym raised ∙ ap (λ (fs : List Bool). slice_index_or fs place false) none)

-- ---- where a comparison finds no room

module _ (g : Flow Fact) (law : IsFlow g) (n : Nodes Fact) (is : IsGraph n) (m : Mirrors g n) (a : Asked Fact) (i j : ℕ) (left right : List Fact)
    (at : slice_get a.tests i ≡ Some left) (next : slice_get a.tests j ≡ Some right) (first second : List NodeId) (lefts : AreNodesOf n first left) (rights : AreNodesOf n second right)
    (old : Diagrams) (table : List (Option ℕ)) (drawn : AreDrawn g a n old table) where
  abbrev Both : Bases
  Both = IsBaseOfBoth (node_flow n) (map (λ p. p.0) first) (map (λ p. p.0) second)

  both-bases : Within Both (IsSessionBase g a)
  both-bases b w = elim w [
    | inl l ↦ of_test left (in-Contains a.tests left (get_in a.tests i left at)) (test-bases-of-facts g law n is m first left lefts b l)
    | inr r ↦ of_test right (in-Contains a.tests right (get_in a.tests j right next)) (test-bases-of-facts g law n is m second right rights b r)
  ]

  -- the two tests alone have too many parts
  pub crowded-both : IsCrowdedBy Both old → HasMoreParts g a old.limit
  crowded-both c = record {
    functions = c.functions;
    more = c.more;
    distinct = c.distinct;
    parts = λ k d lt. record { is_fixed = part (get_or c.functions k d) (c.each k d lt); varies = c.not_constant k d lt };
  }
    where
      part : (h : Members → Bool) → IsHeld old.nodes h ⊎ IsFixed Both h → IsFixed (IsSessionBase g a) h
      part h w = elim w [
        | inl held ↦ fixed-same (IsSessionBase g a) (meaning old.nodes held.0) h (drawn.parts.each held.0 held.1 held.2) held.3
        | inr fixed ↦ fixed-wider Both (IsSessionBase g a) both-bases h fixed
      ]
