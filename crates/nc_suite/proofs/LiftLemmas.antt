-- A suite of tests by their nodes is the suite of the tests by their facts.
use Rattle.std.proofs.Common.{◌≡◌, ◌↔◌, ℕ, suc, zero, inl, inr, List, [], ◌∷◌, ◌++◌, length, map, take, get_or, Option, Some, slice_get, sym, ap, ◌∙◌, subst, refl}
use Rattle.std.proofs.lemmas.List.{length-map, take-map, map-append}
use Rattle.std.specs.List.{Any}
use Rattle.nc_graph.specs.declared.node.NodeId.{NodeId}
use Rattle.nc_graph.specs.Derivation.{IsStrong, IsInSome}
use Rattle.nc_graph.specs.Flow.{Flow, IsFlow}
use Rattle.nc_graph.specs.Nodes.{Nodes, node_flow, IsGraph, Mirrors}
use Rattle.nc_graph.proofs.NodeLaws.{IsStrong-node, IsInSome-node}
use Rattle.nc_marks.specs.declared.mark.Mark.{Mark}
use Rattle.nc_marks.specs.Marks.{IsMark}
use Rattle.nc_marks.proofs.LawLemmas.{mark-carried, nodes-both}
use Rattle.nc_suite.specs.Suite.{facts_of, tests_at, still, HasSameMarks, IsSpare, Leaves, IsSuite}

-- ---- tests that are mapped

module _ {X Y : Type 0} (f : X → Y) where
  at-map : (tests : List (List X)) (place : ℕ) → get_or (map (map f) tests) place [] ≡ map f (get_or tests place [])
  at-map [] place = refl
  at-map (t ∷ ts) zero = refl
  at-map (t ∷ ts) (suc place) = at-map ts place

  places-map : (tests : List (List X)) (stay : List ℕ) → tests_at (map (map f) tests) stay ≡ map (map f) (tests_at tests stay)
  places-map tests [] = refl
  places-map tests (p ∷ ps) =
      ap (λ t. t ∷ tests_at (map (map f) tests) ps) (at-map tests p) ∙ ap (λ ts. map f (get_or tests p []) ∷ ts) (places-map tests ps)

  facts-map : (tests : List (List X)) → facts_of (map (map f) tests) ≡ map f (facts_of tests)
  facts-map [] = refl
  facts-map (t ∷ ts) = ap (λ l. map f t ++ l) (facts-map ts) ∙ sym (map-append f t (facts_of ts))

  pub still-map : (tests : List (List X)) (turn : ℕ) (stay : List ℕ) → facts_of (still (map (map f) tests) turn stay) ≡ map f (facts_of (still tests turn stay))
  still-map tests turn stay =
      ap facts_of (ap (λ ts. ts ++ tests_at (map (map f) tests) stay) (take-map (map f) turn tests)
      ∙ ap (λ ts. map (map f) (take turn tests) ++ ts) (places-map tests stay) ∙ sym (map-append (map f) (take turn tests) (tests_at tests stay)))
      ∙ facts-map (still tests turn stay)

module _ {F : Type 0} (g : Flow F) (law : IsFlow g) (n : Nodes F) (is : IsGraph n) (m : Mirrors g n) where
  -- nodes have the same marks where their facts do
  same-lifted : (elements : ℕ) (xs ys : List NodeId) (fs hs : List F) → map (λ p. slice_get n.facts p.0) xs ≡ map Some fs → map (λ p. slice_get n.facts p.0) ys ≡ map Some hs
      → HasSameMarks (node_flow n) elements (map (λ p. p.0) xs) (map (λ p. p.0) ys) ↔ HasSameMarks g elements fs hs
  same-lifted elements xs ys fs hs a b = (
    λ same e lt mark. (
      λ i. down ys hs b (Some e) mark ((same e lt mark).0 (up xs fs a (Some e) mark i)),
      λ i. down xs fs a (Some e) mark ((same e lt mark).1 (up ys hs b (Some e) mark i)),
    ),
    λ same e lt mark. (
      λ i. up ys hs b (Some e) mark ((same e lt mark).0 (down xs fs a (Some e) mark i)),
      λ i. up xs fs a (Some e) mark ((same e lt mark).1 (down ys hs b (Some e) mark i)),
    ),
  )
    where
      strongs : (ids : List NodeId) (facts : List F) → map (λ p. slice_get n.facts p.0) ids ≡ map Some facts → (e : ℕ) → Any (IsStrong (node_flow n) e) (map (λ p. p.0) ids) ↔ Any (IsStrong g e) facts
      strongs ids facts are e = nodes-both g law n is m ids facts are (IsStrong (node_flow n) e) (IsStrong g e) (λ j f at. IsStrong-node g law n is m e j f at)

      somes : (ids : List NodeId) (facts : List F) → map (λ p. slice_get n.facts p.0) ids ≡ map Some facts → (e : ℕ) → Any (IsInSome (node_flow n) e) (map (λ p. p.0) ids) ↔ Any (IsInSome g e) facts
      somes ids facts are e = nodes-both g law n is m ids facts are (IsInSome (node_flow n) e) (IsInSome g e) (λ j f at. IsInSome-node g law n is m e j f at)

      down : (ids : List NodeId) (facts : List F) → map (λ p. slice_get n.facts p.0) ids ≡ map Some facts → (owner : Option ℕ) (mark : Mark) → IsMark (node_flow n) (map (λ p. p.0) ids) owner mark → IsMark g facts owner mark
      down ids facts are = mark-carried (node_flow n) (map (λ p. p.0) ids) g facts (strongs ids facts are) (somes ids facts are)

      up : (ids : List NodeId) (facts : List F) → map (λ p. slice_get n.facts p.0) ids ≡ map Some facts → (owner : Option ℕ) (mark : Mark) → IsMark g facts owner mark → IsMark (node_flow n) (map (λ p. p.0) ids) owner mark
      up ids facts are = mark-carried g facts (node_flow n) (map (λ p. p.0) ids) (λ e. let s = strongs ids facts are e in (s.1, s.0)) (λ e. let s = somes ids facts are e in (s.1, s.0))

  module _ (ids : List (List NodeId)) (tests : List (List F)) (are : map (map (λ p. slice_get n.facts p.0)) ids ≡ map (map Some) tests) (elements : ℕ) where
    abbrev pub numbers : List (List ℕ)
    numbers = map (map (λ p. p.0)) ids

    still-are : (turn : ℕ) (stay : List ℕ) → map (λ p. slice_get n.facts p.0) (facts_of (still ids turn stay)) ≡ map Some (facts_of (still tests turn stay))
    still-are turn stay =
        sym (still-map (λ p. slice_get n.facts p.0) ids turn stay) ∙ ap (λ ts. facts_of (still ts turn stay)) are ∙ still-map Some tests turn stay

    spare-lifted : (turn : ℕ) (stay : List ℕ) → IsSpare (node_flow n) elements numbers turn stay ↔ IsSpare g elements tests turn stay
    spare-lifted turn stay =
        let both = same-lifted elements (facts_of (still ids turn stay)) (facts_of (still ids (suc turn) stay)) (facts_of (still tests turn stay)) (facts_of (still tests (suc turn) stay))
        (still-are turn stay) (still-are (suc turn) stay) in
        subst (λ xs. HasSameMarks (node_flow n) elements xs (facts_of (still numbers (suc turn) stay)) ↔ IsSpare g elements tests turn stay) (sym (still-map (λ p. p.0) ids turn stay))
        (subst (λ ys. HasSameMarks (node_flow n) elements (map (λ p. p.0) (facts_of (still ids turn stay))) ys ↔ IsSpare g elements tests turn stay) (sym (still-map (λ p. p.0) ids (suc turn) stay)) both)

    leaves-lifted : (turn : ℕ) (stay suite : List ℕ) → Leaves (node_flow n) elements numbers turn stay suite → Leaves g elements tests turn stay suite
    leaves-lifted zero stay suite l = l
    leaves-lifted (suc turn) stay suite (inl l) = inl ((spare-lifted turn stay).0 l.0, leaves-lifted turn stay suite l.1)
    leaves-lifted (suc turn) stay suite (inr l) = inr (λ s. l.0 ((spare-lifted turn stay).1 s), leaves-lifted turn (turn ∷ stay) suite l.1)

    pub suite-lifted : (suite : List ℕ) → IsSuite (node_flow n) elements numbers suite → IsSuite g elements tests suite
    suite-lifted suite l =
        let long : length numbers ≡ length tests
        = length-map ids (map (λ p. p.0)) ∙ sym (length-map ids (map (λ p. slice_get n.facts p.0))) ∙ ap length are ∙ length-map tests (map Some) in
        leaves-lifted (length tests) [] suite (subst (λ k. Leaves (node_flow n) elements numbers k [] suite) long l)
