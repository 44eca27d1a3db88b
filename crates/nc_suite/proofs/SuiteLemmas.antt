-- What a suite is like: its places ascend, its marks are those of all tests, and none of its tests is too many.
use Rattle.std.proofs.Common.{◌≡◌, ℕ, suc, zero, ◌+◌, ◌<◌, ◌≤◌, ◌⊎◌, inl, inr, Bool, true, false, not, cond, List, [], ◌∷◌, ◌++◌, length, map, take, get_or, slice_index, sym, ap, ◌∙◌, subst, refl, arith, nat_eq, All, append_assoc, append-nil}
use Rattle.std.proofs.lemmas.Bool.{eq-eqb, false≢true}
use Rattle.std.proofs.lemmas.List.{take_more, take_all}
use Rattle.std.specs.List.{Any, filter}
use Rattle.std.specs.List.Sorted.{IsStrictlyIncreasing}
use Rattle.nc_graph.specs.Derivation.{IsStrong, IsInSome}
use Rattle.nc_graph.specs.Flow.{Flow}
use Rattle.nc_graph.proofs.Members.{In, in_left, in_right, in_parts, in_flat_map, flat_map_in, all_from}
use Rattle.nc_graph.proofs.WalkLemmas.{Contains-in, in-Contains}
use Rattle.nc_marks.specs.declared.mark.Mark.TheVariants.{Strong, Weak, Uncovered, Outside}
use Rattle.nc_suite.specs.Suite.{facts_of, tests_at, still, HasSameMarks, Leaves, IsSuite, without}

-- ---- lists

pub any-more : {X : Type 0} (P : X → Type 0) (xs ys : List X) → ((x : X) → In x xs → In x ys) → Any P xs → Any P ys
any-more P xs ys more a =
    let c = in-Contains ys a.1 (more a.1 (Contains-in xs a.1 (a.0, a.2, a.3))) in
    (c.0, a.1, c.1, c.2, a.4)

pub map-in : {X Y : Type 0} (f : X → Y) (xs : List X) (x : X) → In x xs → In (f x) (map f xs)
map-in f [] x i = absurd i
map-in f (y ∷ ys) x i = elim i [ inl e ↦ inl (ap f e) | inr j ↦ inr (map-in f ys x j) ]

-- where an element of a mapped list comes from
abbrev pub FromOne : {X Y : Type 0} → (X → Y) → List X → Y → Type 0
FromOne {X} f xs y = (x : X) × In x xs × (f x ≡ y)

pub in-mapped : {X Y : Type 0} (f : X → Y) (xs : List X) (y : Y) → In y (map f xs) → FromOne f xs y
in-mapped f [] y i = absurd i
in-mapped f (x ∷ xs) y i = elim i [ inl e ↦ (x, inl refl, e) | inr j ↦ let r = in-mapped f xs y j in (r.0, inr r.1, r.2) ]

in-filter : (p : ℕ → Bool) (xs : List ℕ) (x : ℕ) → In x (filter p xs) → In x xs × (p x ≡ true)
in-filter p [] x i = absurd i
in-filter p (y ∷ ys) x i = here (p y) refl (in-filter p ys x) i
  where
    here : (b : Bool) → p y ≡ b → (In x (filter p ys) → In x ys × (p x ≡ true)) → In x (cond b (y ∷ filter p ys) (filter p ys)) → In x (y ∷ ys) × (p x ≡ true)
    here true s rest j = elim j [ inl e ↦ (inl e, subst (λ z. p z ≡ true) e s) | inr k ↦ let r = rest k in (inr r.0, r.1) ]
    here false s rest j = let r = rest j in (inr r.0, r.1)

pub at-in-take : {X : Type 0} (xs : List X) (i n : ℕ) (d : X) → i < n → n ≤ length xs → In (get_or xs i d) (take n xs)
at-in-take [] i n d lt le = absurd (omega arith)
at-in-take (x ∷ xs) i zero d lt le = absurd (omega arith)
at-in-take (x ∷ xs) zero (suc n) d lt le = inl refl
at-in-take (x ∷ xs) (suc i) (suc n) d lt le = inr (at-in-take xs i n d (omega arith) (omega arith))

-- from a number on, each is above the one before it
abbrev pub AscendsFrom : ℕ → List ℕ → Type 0
AscendsFrom low [] = Unit {0}
AscendsFrom low (x ∷ xs) = (low ≤ x) × AscendsFrom (x + 1) xs

ascends-lower : (low next : ℕ) (xs : List ℕ) → low ≤ next → AscendsFrom next xs → AscendsFrom low xs
ascends-lower low next [] le a = tt
ascends-lower low next (x ∷ xs) le a = let h : next ≤ x = a.0 in (omega arith, a.1)

pub ascends-increasing : (low : ℕ) (xs : List ℕ) → AscendsFrom low xs → IsStrictlyIncreasing xs
ascends-increasing low [] a k lt = absurd (omega arith)
ascends-increasing low (x ∷ []) a k lt = absurd (omega arith)
ascends-increasing low (x ∷ y ∷ ys) a zero lt = let h : x + 1 ≤ y = a.1.0 in omega arith
ascends-increasing low (x ∷ y ∷ ys) a (suc k) lt =
    let next : suc k + 1 ≡ suc (k + 1) = omega arith in
    subst (λ m. slice_index (x ∷ y ∷ ys) (suc k) < slice_index (x ∷ y ∷ ys) m) (sym next) (ascends-increasing (x + 1) (y ∷ ys) a.1 k (omega arith))

-- ---- the same marks

module _ {F : Type 0} (g : Flow F) (elements : ℕ) where
  pub same-refl : (xs : List F) → HasSameMarks g elements xs xs
  same-refl xs e lt m = (λ i. i, λ i. i)

  pub same-trans : (xs ys zs : List F) → HasSameMarks g elements xs ys → HasSameMarks g elements ys zs → HasSameMarks g elements xs zs
  same-trans xs ys zs a b e lt m = (λ i. (b e lt m).0 ((a e lt m).0 i), λ i. (a e lt m).1 ((b e lt m).1 i))

  pub same-sym : (xs ys : List F) → HasSameMarks g elements xs ys → HasSameMarks g elements ys xs
  same-sym xs ys a e lt m = ((a e lt m).1, (a e lt m).0)

  -- facts between such that have the same marks
  module _ (xs ys zs : List F) (first : (f : F) → In f xs → In f ys) (second : (f : F) → In f ys → In f zs) (same : HasSameMarks g elements xs zs) where
    strong-up : (e : ℕ) → Any (IsStrong g e) ys → Any (IsStrong g e) zs
    strong-up e = any-more (IsStrong g e) ys zs second

    some-up : (e : ℕ) → Any (IsInSome g e) ys → Any (IsInSome g e) zs
    some-up e = any-more (IsInSome g e) ys zs second

    strong-down : (e : ℕ) → e < elements → Any (IsStrong g e) zs → Any (IsStrong g e) ys
    strong-down e lt a = any-more (IsStrong g e) xs ys first ((same e lt Strong).1 a)

    some-down : (e : ℕ) → e < elements → ¬ Any (IsStrong g e) zs → Any (IsInSome g e) zs → Any (IsInSome g e) ys
    some-down e lt none a = any-more (IsInSome g e) xs ys first ((same e lt Weak).1 (none, a)).1

    pub same-between : HasSameMarks g elements ys zs
    same-between e lt Strong = (strong-up e, strong-down e lt)
    same-between e lt Weak = (
      λ m. (λ s. m.0 (strong-down e lt s), some-up e m.1),
      λ m. (λ s. m.0 (strong-up e s), some-down e lt m.0 m.1),
    )
    same-between e lt Uncovered = (
      λ m. (λ s. m.0 (strong-down e lt s), λ w. m.1 (some-down e lt (λ s. m.0 (strong-down e lt s)) w)),
      λ m. (λ s. m.0 (strong-up e s), λ w. m.1 (some-up e w)),
    )
    same-between e lt Outside = (λ m. m, λ m. m)

-- ---- the tests that are still kept

module _ {F : Type 0} (tests : List (List F)) where
  -- of the tests that are still kept the last to be looked at may stand with those that stay
  pub still-stays : (turn : ℕ) (stay : List ℕ) → turn < length tests → still tests (suc turn) stay ≡ still tests turn (turn ∷ stay)
  still-stays turn stay lt =
      let next : suc turn ≡ turn + 1 = omega arith in
      ap (λ ts. ts ++ tests_at tests stay) (ap (λ m. take m tests) next ∙ take_more tests turn [] lt)
      ∙ append_assoc (take turn tests) (get_or tests turn [] ∷ []) (tests_at tests stay)

  pub still-all : still tests (length tests) [] ≡ tests
  still-all = append-nil (take (length tests) tests) ∙ take_all (length tests) tests (omega arith)

  still-more : (turn : ℕ) (stay : List ℕ) → turn < length tests → (f : F) → In f (facts_of (still tests turn stay)) → In f (facts_of (still tests (suc turn) stay))
  still-more turn stay lt f i =
      let r = flat_map_in (λ t. t) (still tests turn stay) f i in
      in_flat_map (λ t. t) (still tests (suc turn) stay) r.0 f
      (subst (In r.0) (sym (still-stays turn stay lt)) (elim (in_parts (take turn tests) (tests_at tests stay) r.0 r.1) [
        | inl j ↦ in_left (take turn tests) (tests_at tests (turn ∷ stay)) r.0 j
        | inr j ↦ in_right (take turn tests) (tests_at tests (turn ∷ stay)) r.0 (inr j)
      ])) r.2

module _ {F : Type 0} (g : Flow F) (elements : ℕ) (tests : List (List F)) where
  -- each place that is left was to be looked at, or stays
  leaves-parts : (turn : ℕ) (stay suite : List ℕ) → Leaves g elements tests turn stay suite → (p : ℕ) → In p suite → (p < turn) ⊎ In p stay
  leaves-parts zero stay suite l p i = inr (subst (In p) l i)
  leaves-parts (suc turn) stay suite (inl l) p i = elim (leaves-parts turn stay suite l.1 p i) [ inl lt ↦ inl (omega arith) | inr j ↦ inr j ]
  leaves-parts (suc turn) stay suite (inr l) p i = elim (leaves-parts turn (turn ∷ stay) suite l.1 p i) [
    | inl lt ↦ inl (omega arith)
    | inr j ↦ elim j [ inl e ↦ inl (subst (λ q. q < suc turn) e (omega arith)) | inr k ↦ inr k ]
  ]

  leaves-ascends : (turn : ℕ) (stay suite : List ℕ) → AscendsFrom turn stay → Leaves g elements tests turn stay suite → AscendsFrom 0 suite
  leaves-ascends zero stay suite a l = subst (AscendsFrom 0) (sym l) a
  leaves-ascends (suc turn) stay suite a (inl l) = leaves-ascends turn stay suite (ascends-lower turn (suc turn) stay (omega arith) a) l.1
  leaves-ascends (suc turn) stay suite a (inr l) = leaves-ascends turn (turn ∷ stay) suite (omega arith, ascends-lower (turn + 1) (suc turn) stay (omega arith) a) l.1

  leaves-marks : (turn : ℕ) (stay suite : List ℕ) → turn ≤ length tests → Leaves g elements tests turn stay suite
      → HasSameMarks g elements (facts_of (tests_at tests suite)) (facts_of (still tests turn stay))
  leaves-marks zero stay suite le l = subst (λ s. HasSameMarks g elements (facts_of (tests_at tests suite)) (facts_of (tests_at tests s))) l (same-refl g elements (facts_of (tests_at tests suite)))
  leaves-marks (suc turn) stay suite le (inl l) =
      same-trans g elements (facts_of (tests_at tests suite)) (facts_of (still tests turn stay)) (facts_of (still tests (suc turn) stay))
      (leaves-marks turn stay suite (omega arith) l.1) l.0
  leaves-marks (suc turn) stay suite le (inr l) =
      subst (λ ts. HasSameMarks g elements (facts_of (tests_at tests suite)) (facts_of ts)) (sym (still-stays tests turn stay (omega arith)))
      (leaves-marks turn (turn ∷ stay) suite (omega arith) l.1)

  -- without this place not all marks are there
  abbrev pub IsNeeded : ℕ → List ℕ → Type 0
  IsNeeded p suite = HasSameMarks g elements (facts_of (tests_at tests (without p suite))) (facts_of tests) → ⊥

  -- what is left without a place was still kept when that was looked at
  without-still : (turn : ℕ) (stay suite : List ℕ) → turn < length tests → Leaves g elements tests turn (turn ∷ stay) suite
      → (f : F) → In f (facts_of (tests_at tests (without turn suite))) → In f (facts_of (still tests turn stay))
  without-still turn stay suite lt l f i =
      let r = flat_map_in (λ t. t) (tests_at tests (without turn suite)) f i in
      let p = in-mapped (λ place. get_or tests place []) (without turn suite) r.0 r.1 in
      let q = in-filter (λ other. not (nat_eq turn other)) suite p.0 p.1 in
      in_flat_map (λ t. t) (still tests turn stay) r.0 f (subst (λ t. In t (still tests turn stay)) p.2 (here p.0 q.1 (leaves-parts turn (turn ∷ stay) suite l p.0 q.0))) r.2
    where
      here : (p : ℕ) → not (nat_eq turn p) ≡ true → (p < turn) ⊎ In p (turn ∷ stay) → In (get_or tests p []) (still tests turn stay)
      here p other (inl low) = in_left (take turn tests) (tests_at tests stay) (get_or tests p []) (at-in-take tests p turn [] low (omega arith))
      here p other (inr j) = elim j [
        | inl e ↦ absurd (false≢true (sym (ap not (eq-eqb turn p e)) ∙ other))
        | inr k ↦ in_right (take turn tests) (tests_at tests stay) (get_or tests p []) (map-in (λ place. get_or tests place []) stay p k)
      ]

  leaves-needed : (turn : ℕ) (stay suite : List ℕ) → turn ≤ length tests → HasSameMarks g elements (facts_of (still tests turn stay)) (facts_of tests)
      → Leaves g elements tests turn stay suite → (p : ℕ) → In p suite → In p stay ⊎ IsNeeded p suite
  leaves-needed zero stay suite le all l p i = inl (subst (In p) l i)
  leaves-needed (suc turn) stay suite le all (inl l) p i =
      leaves-needed turn stay suite (omega arith)
      (same-trans g elements (facts_of (still tests turn stay)) (facts_of (still tests (suc turn) stay)) (facts_of tests) l.0 all) l.1 p i
  leaves-needed (suc turn) stay suite le all (inr l) p i =
      elim (leaves-needed turn (turn ∷ stay) suite (omega arith)
      (subst (λ ts. HasSameMarks g elements (facts_of ts) (facts_of tests)) (still-stays tests turn stay (omega arith)) all) l.1 p i) [
        | inl j ↦ elim j [ inl e ↦ inr (subst (λ q. IsNeeded q suite) e needed) | inr k ↦ inl k ]
        | inr n ↦ inr n
      ]
    where
      needed : IsNeeded turn suite
      needed same = l.0 (same-between g elements (facts_of (tests_at tests (without turn suite))) (facts_of (still tests turn stay)) (facts_of (still tests (suc turn) stay))
          (without-still turn stay suite (omega arith) l.1) (still-more tests turn stay (omega arith))
          (same-trans g elements (facts_of (tests_at tests (without turn suite))) (facts_of tests) (facts_of (still tests (suc turn) stay)) same
          (same-sym g elements (facts_of (still tests (suc turn) stay)) (facts_of tests) all)))

  pub suite-ascends : (suite : List ℕ) → IsSuite g elements tests suite → IsStrictlyIncreasing suite
  suite-ascends suite l = ascends-increasing 0 suite (leaves-ascends (length tests) [] suite tt l)

  pub suite-within : (suite : List ℕ) → IsSuite g elements tests suite → All (λ place. place < length tests) suite
  suite-within suite l = all_from (λ place. place < length tests) suite (λ p i. elim (leaves-parts (length tests) [] suite l p i) [ inl lt ↦ lt | inr none ↦ absurd none ])

  pub suite-marks : (suite : List ℕ) → IsSuite g elements tests suite → HasSameMarks g elements (facts_of (tests_at tests suite)) (facts_of tests)
  suite-marks suite l =
      subst (λ ts. HasSameMarks g elements (facts_of (tests_at tests suite)) (facts_of ts)) (still-all tests) (leaves-marks (length tests) [] suite (omega arith) l)

  pub suite-needs : (suite : List ℕ) → IsSuite g elements tests suite → (p : ℕ) → In p suite → IsNeeded p suite
  suite-needs suite l p i = elim (leaves-needed (length tests) [] suite (omega arith)
      (subst (λ ts. HasSameMarks g elements (facts_of ts) (facts_of tests)) (sym (still-all tests)) (same-refl g elements (facts_of tests))) l p i) [ inl none ↦ absurd none | inr n ↦ n ]
