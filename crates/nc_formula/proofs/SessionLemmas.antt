-- What is drawn for a session: nodes and their facts have the same bases, and each step keeps that nodes are parts.
use Rattle.std.proofs.Common.{◌≡◌, ℕ, ◌+◌, ◌⊎◌, inl, inr, Bool, List, [], ◌∷◌, length, map, take, get_or, Option, Some, slice_get, Contains, sym, ap, ◌∙◌}
use Rattle.std.proofs.lemmas.Bool.{cases_lt}
use Rattle.std.proofs.lemmas.List.{take-map}
use Rattle.std.proofs.lemmas.List.Elements.{Contains-append_left}
use Rattle.nc_graph.specs.declared.node.NodeId.{NodeId}
use Rattle.nc_graph.specs.Flow.{Flow, IsFlow, by_kind}
use Rattle.nc_graph.specs.Derivation.{carried}
use Rattle.nc_graph.specs.Nodes.{Nodes, node_flow, IsGraph, Mirrors, Extends, AreNodesOf}
use Rattle.nc_graph.proofs.Members.{get_in}
use Rattle.nc_graph.proofs.NodeLemmas.{slice_get-left}
use Rattle.nc_graph.proofs.NodeLaws.{all_agree, any_agree, carried-node}
use Rattle.nc_graph.proofs.FactLemmas.{reached-fact}
use Rattle.nc_graph.proofs.WalkLemmas.{in-Contains}
use Rattle.nc_diagram.specs.Sets.{Members, Same, has}
use Rattle.nc_diagram.specs.Diagrams.{Diagrams, meaning, IsHeld}
use Rattle.nc_formula.specs.Parts.{carrying_each, carrying_one, IsBaseOf, IsBaseOfTest, IsBaseOfBoth, IsFixed, Gains, IsCrowdedBy}
use Rattle.nc_formula.specs.Formulas.{AreFormulas}
use Rattle.nc_formula.specs.Session.{Asked, with_test, with_question, IsSessionBase, of_test, of_pair, AreParts, AreDrawn, HasMoreParts}
use Rattle.nc_formula.proofs.GainLemmas.{Bases, Within, fixed-wider, fixed-same}
use Rattle.nc_formula.proofs.LawLemmas.{formulas-extended}

-- the nodes of the first facts
first-nodes : {F : Type 0} (n : Nodes F) (k : ℕ) (ids : List NodeId) (fs : List F) → AreNodesOf n ids fs → AreNodesOf n (take k ids) (take k fs)
first-nodes n k ids fs are = sym (take-map (λ p. slice_get n.facts p.0) k ids) ∙ ap (take k) are ∙ take-map Some k fs

module _ {F : Type 0} (g : Flow F) (law : IsFlow g) (n : Nodes F) (is : IsGraph n) (m : Mirrors g n) where
  pub each-fact : (ids : List NodeId) (fs : List F) → AreNodesOf n ids fs → Same (carrying_each (node_flow n) (map (λ p. p.0) ids)) (carrying_each g fs)
  each-fact ids fs are s = all_agree n (carried (node_flow n) (has s)) (carried g (has s)) ids fs are (λ i f within at. carried-node g law n is m (has s) i f at)

  one-fact : (ids : List NodeId) (fs : List F) → AreNodesOf n ids fs → Same (carrying_one (node_flow n) (map (λ p. p.0) ids)) (carrying_one g fs)
  one-fact ids fs are s = any_agree n (carried (node_flow n) (has s)) (carried g (has s)) ids fs are (λ i f within at. carried-node g law n is m (has s) i f at)

  each-first : (k : ℕ) (ids : List NodeId) (fs : List F) → AreNodesOf n ids fs → Same (carrying_each (node_flow n) (take k (map (λ p. p.0) ids))) (carrying_each g (take k fs))
  each-first k ids fs are s = ap (λ is. carrying_each (node_flow n) is s) (take-map (λ (p : NodeId). p.0) k ids) ∙ each-fact (take k ids) (take k fs) (first-nodes n k ids fs are) s

  one-first : (k : ℕ) (ids : List NodeId) (fs : List F) → AreNodesOf n ids fs → Same (carrying_one (node_flow n) (take k (map (λ p. p.0) ids))) (carrying_one g (take k fs))
  one-first k ids fs are s = ap (λ is. carrying_one (node_flow n) is s) (take-map (λ (p : NodeId). p.0) k ids) ∙ one-fact (take k ids) (take k fs) (first-nodes n k ids fs are) s

  -- the bases of a node are those of its fact
  node-bases : (j : ℕ) (h : F) → slice_get n.facts j ≡ Some h → Within (IsBaseOf (node_flow n) j) (IsBaseOf g h)
  node-bases j h at b w =
      let of = m.each j h at in
      let ids = get_or n.parents j [] in
      let ps = (node_flow n).parents j in
      elim w [
        | inl e ↦ inl (λ s. e s ∙ carried-node g law n is m (has s) j h at)
        | inr first ↦ inr (
          first.0,
          λ s.
              first.1 s
              ∙ ap (λ k. by_kind k (has s) (carrying_each (node_flow n) (take first.0 ps) s) (carrying_one (node_flow n) (take first.0 ps) s)) of.kind
              ∙ ap (λ v. by_kind (g.kind h) (has s) v (carrying_one (node_flow n) (take first.0 ps) s)) (each-first first.0 ids (g.parents h) of.parents s)
              ∙ ap (λ v. by_kind (g.kind h) (has s) (carrying_each g (take first.0 (g.parents h)) s) v) (one-first first.0 ids (g.parents h) of.parents s),
        )
      ]

  -- the bases of a test by its nodes are those by its facts
  pub test-bases-of-facts : (ids : List NodeId) (fs : List F) → AreNodesOf n ids fs → Within (IsBaseOfTest (node_flow n) (map (λ p. p.0) ids)) (IsBaseOfTest g fs)
  test-bases-of-facts ids fs are b w = elim w [
    | inl from ↦ (let r = reached-fact g n m ids fs are from.0 from.1 in inl (r.0, r.2, node-bases from.0 r.0 r.1 b from.2))
    | inr first ↦ inr (first.0, λ s. first.1 s ∙ each-first first.0 ids fs are s)
  ]

-- a test by its place
test-in : {F : Type 0} (a : Asked F) (i : ℕ) (t : List F) → slice_get a.tests i ≡ Some t → Contains a.tests t
test-in a i t at = in-Contains a.tests t (get_in a.tests i t at)

-- ---- one more test, and one more question

module _ {F : Type 0} (g : Flow F) (a : Asked F) where
  bases-with-test : (t : List F) → Within (IsSessionBase g a) (IsSessionBase g (with_test a t))
  bases-with-test t b (of_test facts c w) = of_test facts (Contains-append_left a.tests (t ∷ []) facts c) w
  bases-with-test t b (of_pair i j first second c at next w) = of_pair i j first second c (slice_get-left a.tests (t ∷ []) i first at) (slice_get-left a.tests (t ∷ []) j second next) w

  bases-with-question : (k l : ℕ) → Within (IsSessionBase g a) (IsSessionBase g (with_question a k l))
  bases-with-question k l b (of_test facts c w) = of_test facts c w
  bases-with-question k l b (of_pair i j first second c at next w) = of_pair i j first second (Contains-append_left a.pairs ((k, l) ∷ []) (i, j) c) at next w

parts-wider : {F : Type 0} (g : Flow F) (a b : Asked F) → Within (IsSessionBase g a) (IsSessionBase g b) → (d : Diagrams) → AreParts g a d → AreParts g b d
parts-wider g a b within d parts = record { each = λ r two h. fixed-wider (IsSessionBase g a) (IsSessionBase g b) within (meaning d.nodes r) (parts.each r two h) }

module _ {F : Type 0} (g : Flow F) (a : Asked F) (n : Nodes F) (d : Diagrams) (table : List (Option ℕ)) (drawn : AreDrawn g a n d table) where
  pub with-test : (t : List F) → AreDrawn g (with_test a t) n d table
  with-test t = record { formulas = drawn.formulas; parts = parts-wider g a (with_test a t) (bases-with-test g a t) d drawn.parts }

  pub with-question : (i j : ℕ) → AreDrawn g (with_question a i j) n d table
  with-question i j = record { formulas = drawn.formulas; parts = parts-wider g a (with_question a i j) (bases-with-question g a i j) d drawn.parts }

  pub with-nodes : (new : Nodes F) → IsGraph n → IsGraph new → Extends n new → AreDrawn g a new d table
  with-nodes new is longer ext = record { formulas = formulas-extended n new is longer ext d.nodes table drawn.formulas; parts = drawn.parts }

-- ---- what is gained by parts of the session, and what makes it crowded

module _ {F : Type 0} (g : Flow F) (a : Asked F) (B : Bases) (within : Within B (IsSessionBase g a)) (n : Nodes F) (old : Diagrams) (table : List (Option ℕ)) (drawn : AreDrawn g a n old table) where
  -- what is gained are parts of the session
  gained-parts : (new : Diagrams) (more : List (Option ℕ)) → Gains B old new → AreFormulas (node_flow n) new.nodes more → AreDrawn g a n new more
  gained-parts new more gained are = record {
    formulas = are;
    parts = record {
      each = λ r two belongs. elim (cases_lt r (length old.nodes + 2)) [
        | inl early ↦ fixed-same (IsSessionBase g a) (meaning old.nodes r) (meaning new.nodes r) (drawn.parts.each r two early) (gained.unchanged r early).1
        | inr late ↦ fixed-wider B (IsSessionBase g a) within (meaning new.nodes r) (gained.parts r late belongs)
      ];
    };
  }

  -- and where there is no room there are more parts of the session, with whatever was asked besides, than the limit
  too-many-parts : (b : Asked F) → Within (IsSessionBase g a) (IsSessionBase g b) → IsCrowdedBy B old → HasMoreParts g b old.limit
  too-many-parts b wider c = record {
    functions = c.functions;
    more = c.more;
    distinct = c.distinct;
    parts = λ k d lt. record {
      is_fixed = fixed-wider (IsSessionBase g a) (IsSessionBase g b) wider (get_or c.functions k d) (part (get_or c.functions k d) (c.each k d lt));
      varies = c.not_constant k d lt;
    };
  }
    where
      part : (h : Members → Bool) → IsHeld old.nodes h ⊎ IsFixed B h → IsFixed (IsSessionBase g a) h
      part h w = elim w [
        | inl held ↦ fixed-same (IsSessionBase g a) (meaning old.nodes held.0) h (drawn.parts.each held.0 held.1 held.2) held.3
        | inr fixed ↦ fixed-wider B (IsSessionBase g a) within h fixed
      ]

-- ---- the diagram of one test, and a comparison of two

module _ {F : Type 0} (g : Flow F) (law : IsFlow g) (n : Nodes F) (is : IsGraph n) (m : Mirrors g n) (a : Asked F) (i : ℕ) (facts : List F)
    (at : slice_get a.tests i ≡ Some facts) (ids : List NodeId) (nodes : AreNodesOf n ids facts) where
  test-bases : Within (IsBaseOfTest (node_flow n) (map (λ p. p.0) ids)) (IsSessionBase g a)
  test-bases b w = of_test facts (test-in a i facts at) (test-bases-of-facts g law n is m ids facts nodes b w)

  module _ (old : Diagrams) (table : List (Option ℕ)) (drawn : AreDrawn g a n old table) where
    pub drawn-test : (new : Diagrams) (more : List (Option ℕ)) → Gains (IsBaseOfTest (node_flow n) (map (λ p. p.0) ids)) old new → AreFormulas (node_flow n) new.nodes more → AreDrawn g a n new more
    drawn-test = gained-parts g a (IsBaseOfTest (node_flow n) (map (λ p. p.0) ids)) test-bases n old table drawn

    pub crowded-test : IsCrowdedBy (IsBaseOfTest (node_flow n) (map (λ p. p.0) ids)) old → HasMoreParts g a old.limit
    crowded-test = too-many-parts g a (IsBaseOfTest (node_flow n) (map (λ p. p.0) ids)) test-bases n old table drawn a (λ b w. w)

module _ {F : Type 0} (g : Flow F) (law : IsFlow g) (n : Nodes F) (is : IsGraph n) (m : Mirrors g n) (a : Asked F) (i j : ℕ) (left right : List F)
    (at : slice_get a.tests i ≡ Some left) (next : slice_get a.tests j ≡ Some right) (first second : List NodeId) (lefts : AreNodesOf n first left) (rights : AreNodesOf n second right) where
  abbrev Both : Bases
  Both = IsBaseOfBoth (node_flow n) (map (λ p. p.0) first) (map (λ p. p.0) second)

  both-bases : Within Both (IsSessionBase g a)
  both-bases b w = elim w [
    | inl l ↦ test-bases g law n is m a i left at first lefts b l
    | inr r ↦ test-bases g law n is m a j right next second rights b r
  ]

  module _ (old : Diagrams) (table : List (Option ℕ)) (drawn : AreDrawn g a n old table) where
    pub compared : (new : Diagrams) (more : List (Option ℕ)) → Gains Both old new → AreFormulas (node_flow n) new.nodes more → AreDrawn g a n new more
    compared = gained-parts g a Both both-bases n old table drawn

    pub crowded-parts : IsCrowdedBy Both old → HasMoreParts g (with_question a i j) old.limit
    crowded-parts = too-many-parts g a Both both-bases n old table drawn (with_question a i j) (bases-with-question g a i j)
