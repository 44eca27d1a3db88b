-- The suite of tests of which those that repeat others are left without facts is the suite of the tests.
use Rattle.std.proofs.Common.{◌≡◌, All, Decides, nat_eq, ℕ, suc, zero, ◌<◌, ◌≤◌, ◌⊎◌, inl, inr, List, [], ◌∷◌, ◌++◌, length, map, take, get_or, Contains, sym, ap, ◌∙◌, subst, refl, arith, append_assoc}
use Rattle.std.proofs.lemmas.Bool.{cases_lt, eq-eqb, eqb-true}
use Rattle.std.proofs.lemmas.List.{map-append}
use Rattle.std.proofs.lemmas.List.Elements.{All-nil}
use Rattle.nc_graph.specs.declared.node.NodeId.{NodeId}
use Rattle.nc_graph.specs.Flow.{Flow}
use Rattle.nc_graph.proofs.Members.{In, in_left, in_right, in_parts, in_flat_map, flat_map_in, all_from, of_all}
use Rattle.nc_graph.proofs.WalkLemmas.{Contains-in, in-Contains}
use Rattle.nc_suite.specs.Repeats.{AreLeft}
use Rattle.nc_suite.specs.Suite.{facts_of, tests_at, still, HasSameMarks, IsSpare, Leaves, IsSuite}
use Rattle.nc_suite.proofs.SuiteLemmas.{same-between, same-refl, same-trans, at-in-take, map-in, in-mapped}

-- ---- nodes

pub node-decides : (a b : NodeId) → Decides (nat_eq a.0 b.0) (a ≡ b)
node-decides a b = (λ e. let same : a.0 ≡ b.0 = eqb-true a.0 b.0 e in ap (λ (n : ℕ). let p : NodeId = record { 0 = n } in p) same, λ e. eq-eqb a.0 b.0 (ap (λ (p : NodeId). p.0) e))

-- the numbers of the nodes of tests
pub numbers-of : {X : Type 0} (now : X → List NodeId) (tests : List X) → map (λ t. map (λ p. p.0) (now t)) tests ≡ map (map (λ p. p.0)) (map now tests)
numbers-of now [] = refl
numbers-of now (t ∷ ts) = ap (λ (rest : List (List ℕ)). map (λ p. p.0) (now t) ∷ rest) (numbers-of now ts)

-- ---- what is left of one test

module _ {F : Type 0} where
  -- what is left of the test at a place: all, or nothing where it stands at a place before
  abbrev pub IsLeftAt : List (List F) → List (List F) → ℕ → Type 0
  IsLeftAt tests lefts i =
      (get_or lefts i [] ≡ get_or tests i []) ⊎ ((get_or lefts i [] ≡ []) × (j : ℕ) × (j < i) × (get_or lefts j [] ≡ get_or tests i []))

  taken-at : (ts : List (List F)) (n : ℕ) (t : List F) → In t (take n ts) → (p : ℕ) × (p < n) × (get_or ts p [] ≡ t)
  taken-at [] zero t i = absurd i
  taken-at [] (suc n) t i = absurd i
  taken-at (x ∷ xs) zero t i = absurd i
  taken-at (x ∷ xs) (suc n) t i = elim i [
    | inl e ↦ (zero, (omega arith), e)
    | inr j ↦ let r = taken-at xs n t j in (suc r.0, (let lt : r.0 < n = r.1 in omega arith), r.2)
  ]

  -- the same behind others
  left-behind : (before tests lefts : List (List F)) → AreLeft before tests lefts → (i : ℕ) → i < length tests
      → (get_or lefts i [] ≡ get_or tests i []) ⊎ ((get_or lefts i [] ≡ []) × In (get_or tests i []) (before ++ take i lefts))
  left-behind before [] lefts are i lt = absurd (omega arith)
  left-behind before (t ∷ ts) [] are i lt = absurd are
  left-behind before (t ∷ ts) (o ∷ os) are zero lt = elim are.0 [
    | inl e ↦ inl e
    | inr none ↦ inr (none.0, in_left before [] t (Contains-in before t none.1))
  ]
  left-behind before (t ∷ ts) (o ∷ os) are (suc i) lt = elim (left-behind (before ++ o ∷ []) ts os are.1 i (omega arith)) [
    | inl e ↦ inl e
    | inr none ↦ inr (none.0, subst (In (get_or ts i [])) (append_assoc before (o ∷ []) (take i os)) none.1)
  ]

  left-at : (tests lefts : List (List F)) → AreLeft [] tests lefts → (i : ℕ) → i < length tests → IsLeftAt tests lefts i
  left-at tests lefts are i lt = elim (left-behind [] tests lefts are i lt) [
    | inl e ↦ inl e
    | inr none ↦ let r = taken-at lefts i (get_or tests i []) none.1 in inr (none.0, r.0, r.1, r.2)
  ]

  -- what is left of a test is nothing, or a test
  left-in : (before tests lefts : List (List F)) → AreLeft before tests lefts → (t : List F) → In t lefts → (t ≡ []) ⊎ In t tests
  left-in before [] [] are t i = absurd i
  left-in before [] (o ∷ os) are t i = absurd are
  left-in before (x ∷ xs) [] are t i = absurd i
  left-in before (x ∷ xs) (o ∷ os) are t (inl here) = elim are.0 [ inl e ↦ inr (inl (sym e ∙ here)) | inr none ↦ inl (sym here ∙ none.0) ]
  left-in before (x ∷ xs) (o ∷ os) are t (inr i) = elim (left-in (before ++ o ∷ []) xs os are.1 t i) [ inl e ↦ inl e | inr j ↦ inr (inr j) ]

  pub left-long : (before tests lefts : List (List F)) → AreLeft before tests lefts → length lefts ≡ length tests
  left-long before [] [] are = refl
  left-long before [] (o ∷ os) are = absurd are
  left-long before (t ∷ ts) [] are = absurd are
  left-long before (t ∷ ts) (o ∷ os) are = let rest = left-long (before ++ o ∷ []) ts os are.1 in omega arith

  -- ---- the facts of the tests that are still kept

  -- a fact of a test at a place that is to be looked at, or stays
  abbrev IsKept : List (List F) → ℕ → List ℕ → F → Type 0
  IsKept tests turn stay f = (p : ℕ) × ((p < turn) ⊎ In p stay) × In f (get_or tests p [])

  is-kept : (tests : List (List F)) (turn : ℕ) (stay : List ℕ) (f : F) → In f (facts_of (still tests turn stay)) → IsKept tests turn stay f
  is-kept tests turn stay f i =
      let r = flat_map_in (λ t. t) (still tests turn stay) f i in
      elim (in_parts (take turn tests) (tests_at tests stay) r.0 r.1) [
        | inl j ↦ let p = taken-at tests turn r.0 j in (p.0, inl p.1, subst (In f) (sym p.2) r.2)
        | inr j ↦ let p = in-mapped (λ place. get_or tests place []) stay r.0 j in (p.0, inr p.1, subst (In f) (sym p.2) r.2)
      ]

  kept-is : (tests : List (List F)) (turn : ℕ) (stay : List ℕ) → turn ≤ length tests → (f : F) → IsKept tests turn stay f → In f (facts_of (still tests turn stay))
  kept-is tests turn stay within f is =
      in_flat_map (λ t. t) (still tests turn stay) (get_or tests is.0 []) f (elim is.1 [
        | inl low ↦ in_left (take turn tests) (tests_at tests stay) (get_or tests is.0 []) (at-in-take tests is.0 turn [] low within)
        | inr j ↦ in_right (take turn tests) (tests_at tests stay) (get_or tests is.0 []) (map-in (λ place. get_or tests place []) stay is.0 j)
      ]) is.2

-- ---- by other lists

module _ {X Y : Type 0} (f : X → Y) where
  mapped-contains : (xs : List (List X)) (x : List X) → Contains xs x → Contains (map (map f) xs) (map f x)
  mapped-contains xs x c = in-Contains (map (map f) xs) (map f x) (map-in (map f) xs x (Contains-in xs x c))

  pub left-mapped : (before tests lefts : List (List X)) → AreLeft before tests lefts → AreLeft (map (map f) before) (map (map f) tests) (map (map f) lefts)
  left-mapped before [] [] are = tt
  left-mapped before [] (o ∷ os) are = absurd are
  left-mapped before (t ∷ ts) [] are = absurd are
  left-mapped before (t ∷ ts) (o ∷ os) are = (
    elim are.0 [ inl e ↦ inl (ap (map f) e) | inr none ↦ inr (ap (map f) none.0, mapped-contains before t none.1) ],
    subst (λ bs. AreLeft bs (map (map f) ts) (map (map f) os)) (map-append (map f) before (o ∷ [])) (left-mapped (before ++ o ∷ []) ts os are.1),
  )

module _ {X N : Type 0} (now : X → List N) (P : N → Type 0) where
  pub valid-left : (tests lefts : List X) → AreLeft [] (map now tests) (map now lefts) → All (λ t. All P (now t)) tests → All (λ t. All P (now t)) lefts
  valid-left tests lefts are valid = all_from (λ t. All P (now t)) lefts (λ t i.
      elim (left-in [] (map now tests) (map now lefts) are (now t) (map-in now lefts t i)) [
        | inl none ↦ subst (All P) (sym none) (All-nil P)
        | inr j ↦ let r = in-mapped now tests (now t) j in subst (All P) r.2 (of_all (λ t. All P (now t)) tests r.0 valid r.1)
      ])

-- ---- the suite

module _ {F : Type 0} (g : Flow F) (elements : ℕ) (tests lefts : List (List F)) (are : AreLeft [] tests lefts) where
  long : length lefts ≡ length tests
  long = left-long [] tests lefts are

  -- all that stays is whole
  abbrev AreWhole : List ℕ → Type 0
  AreWhole stay = (p : ℕ) → In p stay → get_or lefts p [] ≡ get_or tests p []

  module _ (turn : ℕ) (within : turn ≤ length tests) (stay : List ℕ) (whole : AreWhole stay) where
    to-tests : (f : F) → In f (facts_of (still lefts turn stay)) → In f (facts_of (still tests turn stay))
    to-tests f i =
        let k = is-kept lefts turn stay f i in
        kept-is tests turn stay within f (elim k.1 [
          | inl low ↦ elim (left-at tests lefts are k.0 (omega (arith, low, within))) [
            | inl e ↦ (k.0, inl low, subst (In f) e k.2)
            | inr none ↦ absurd (subst (In f) none.0 k.2)
          ]
          | inr j ↦ (k.0, inr j, subst (In f) (whole k.0 j) k.2)
        ])

    to-lefts : (f : F) → In f (facts_of (still tests turn stay)) → In f (facts_of (still lefts turn stay))
    to-lefts f i =
        let k = is-kept tests turn stay f i in
        kept-is lefts turn stay (omega (arith, within, long)) f (elim k.1 [
          | inl low ↦ elim (left-at tests lefts are k.0 (omega (arith, low, within))) [
            | inl e ↦ (k.0, inl low, subst (In f) (sym e) k.2)
            | inr none ↦ (none.1, inl (omega (arith, low, none.2)), subst (In f) (sym none.3) k.2)
          ]
          | inr j ↦ (k.0, inr j, subst (In f) (sym (whole k.0 j)) k.2)
        ])

    same-left : HasSameMarks g elements (facts_of (still lefts turn stay)) (facts_of (still tests turn stay))
    same-left = same-between g elements (facts_of (still tests turn stay)) (facts_of (still lefts turn stay)) (facts_of (still tests turn stay)) to-lefts to-tests
        (same-refl g elements (facts_of (still tests turn stay)))

    same-tests : HasSameMarks g elements (facts_of (still tests turn stay)) (facts_of (still lefts turn stay))
    same-tests = same-between g elements (facts_of (still lefts turn stay)) (facts_of (still tests turn stay)) (facts_of (still lefts turn stay)) to-tests to-lefts
        (same-refl g elements (facts_of (still lefts turn stay)))

  module _ (turn : ℕ) (within : suc turn ≤ length tests) (stay : List ℕ) (whole : AreWhole stay) where
    spare-left : IsSpare g elements lefts turn stay → IsSpare g elements tests turn stay
    spare-left spare =
        same-trans g elements (facts_of (still tests turn stay)) (facts_of (still lefts turn stay)) (facts_of (still tests (suc turn) stay)) (same-tests turn (omega arith) stay whole)
        (same-trans g elements (facts_of (still lefts turn stay)) (facts_of (still lefts (suc turn) stay)) (facts_of (still tests (suc turn) stay)) spare (same-left (suc turn) within stay whole))

    spare-test : IsSpare g elements tests turn stay → IsSpare g elements lefts turn stay
    spare-test spare =
        same-trans g elements (facts_of (still lefts turn stay)) (facts_of (still tests turn stay)) (facts_of (still lefts (suc turn) stay)) (same-left turn (omega arith) stay whole)
        (same-trans g elements (facts_of (still tests turn stay)) (facts_of (still tests (suc turn) stay)) (facts_of (still lefts (suc turn) stay)) spare (same-tests (suc turn) within stay whole))

    -- a test of which nothing is left is spare
    spare-none : get_or lefts turn [] ≡ [] → IsSpare g elements lefts turn stay
    spare-none none = same-between g elements (facts_of (still lefts (suc turn) stay)) (facts_of (still lefts turn stay)) (facts_of (still lefts (suc turn) stay)) fewer more
        (same-refl g elements (facts_of (still lefts (suc turn) stay)))
      where
        fewer : (f : F) → In f (facts_of (still lefts (suc turn) stay)) → In f (facts_of (still lefts turn stay))
        fewer f i =
            let k = is-kept lefts (suc turn) stay f i in
            kept-is lefts turn stay (omega (arith, within, long)) f (elim k.1 [
              | inl low ↦ at-low k.0 low k.2
              | inr j ↦ (k.0, inr j, k.2)
            ])
          where
            at-low : (p : ℕ) → p < suc turn → In f (get_or lefts p []) → IsKept lefts turn stay f
            at-low p low here = elim (cases_lt p turn) [
              | inl lt ↦ (p, inl lt, here)
              | inr le ↦ let e : p ≡ turn = omega (arith, le, low) in absurd (subst (In f) (ap (λ n. get_or lefts n []) e ∙ none) here)
            ]

        more : (f : F) → In f (facts_of (still lefts turn stay)) → In f (facts_of (still lefts (suc turn) stay))
        more f i =
            let k = is-kept lefts turn stay f i in
            kept-is lefts (suc turn) stay (omega (arith, within, long)) f (
              k.0,
              elim k.1 [
                | inl low ↦ inl (omega (arith, low))
                | inr j ↦ inr j
              ],
              k.2,
            )

  leaves-tests : (turn : ℕ) → turn ≤ length tests → (stay suite : List ℕ) → AreWhole stay → Leaves g elements lefts turn stay suite → Leaves g elements tests turn stay suite
  leaves-tests zero within stay suite whole l = l
  leaves-tests (suc turn) within stay suite whole (inl l) = inl (spare-left turn within stay whole l.0, leaves-tests turn (omega arith) stay suite whole l.1)
  leaves-tests (suc turn) within stay suite whole (inr l) = elim (left-at tests lefts are turn (omega (arith, within))) [
    | inl e ↦ inr (
      λ spare. l.0 (spare-test turn within stay whole spare),
      leaves-tests turn (omega arith) (turn ∷ stay) suite (λ p i. elim i [ inl q ↦ subst (λ n. get_or lefts n [] ≡ get_or tests n []) q e | inr j ↦ whole p j ]) l.1,
    )
    | inr none ↦ absurd (l.0 (spare-none turn within stay whole none.0))
  ]

  pub suite-of-left : (suite : List ℕ) → IsSuite g elements lefts suite → IsSuite g elements tests suite
  suite-of-left suite l = leaves-tests (length tests) (omega arith) [] suite (λ p i. absurd i) (subst (λ n. Leaves g elements lefts n [] suite) long l)
