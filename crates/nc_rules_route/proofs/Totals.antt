-- Sums over lists: of what is made of the items at places, of joined parts, of a list in order, and of distinct prefixes of which one counts.
use Rattle.std.proofs.Common.{◌≡◌, ◌⊎◌, ℕ, suc, ◌+◌, ◌<◌, ◌≤◌, Bool, true, false, cond, List, [], ◌∷◌, length, Option, Some, None, refl, sym, ap, ◌∙◌, arith, inl, inr}
use Rattle.std.specs.List.{flat_map, list_any, slice_get, sum_by}
use Rattle.std.specs.Option.{option_map_or}
use Rattle.std.specs.Ordering.{is_gt}
use Rattle.std.specs.declared.cmp.Ordering.{Ordering}
use Rattle.std.proofs.lemmas.Bool.{cases_lt, or_parts}
use Rattle.std.proofs.lemmas.List.{length-append}
use Rattle.std.proofs.lemmas.List.Sums.{sum_by-cons, sum_by-append}
use Rattle.nc_types.specs.Cidr.{Cidr}
use Rattle.nc_types.proofs.Members.{In}
use Rattle.nc_tables.specs.Base.{same_prefix}
use Rattle.nc_tables.specs.Longest.{places_from}
use Rattle.nc_tables.specs.Order.{insert, in_order}
use Rattle.nc_tables.specs.Rounds.{distinct, made_from}
use Rattle.nc_tables.proofs.ByPrefix.{same_itself}

-- what an item counts that passes a test, and nothing of any other
abbrev pub counted : {X : Type 0} → (X → Bool) → (X → ℕ) → X → ℕ
counted test most x = cond (test x) (most x) 0

-- no more than without the test
pub counted_upto : (b : Bool) (n : ℕ) → cond b n 0 ≤ n
counted_upto true n = omega arith
counted_upto false n = omega arith

-- what counts passes
pub counted_passes : (b : Bool) (n : ℕ) → 0 < cond b n 0 → b ≡ true
counted_passes true n some = refl
counted_passes false n some = absurd (omega arith)

-- ---- places

-- no more places pass than there are
pub few_places : {X : Type 0} (test : X → Bool) (place : ℕ) (xs : List X) → length (places_from test place xs) ≤ length xs
few_places test place [] = omega arith
few_places test place (x ∷ xs) = by_test (test x) (few_places test (place + 1) xs)
  where
    by_test : (b : Bool) → length (places_from test (place + 1) xs) ≤ length xs → length (cond b (place ∷ places_from test (place + 1) xs) (places_from test (place + 1) xs)) ≤ suc (length xs)
    by_test true rest = omega (arith, rest)
    by_test false rest = omega (arith, rest)

module _ {A X : Type 0} (all : List X) (make : ℕ → X → List A) (most : X → ℕ) (each : (k : ℕ) (x : X) → length (make k x) ≤ most x) (test : X → Bool) where
  -- what is made of the item at a place
  abbrev made_at : ℕ → List A
  made_at k = option_map_or (make k) (slice_get all k) []

  made_behind : (place : ℕ) (xs : List X) → ((j : ℕ) → slice_get all (place + j) ≡ slice_get xs j) → length (flat_map made_at (places_from test place xs)) ≤ sum_by (counted test most) xs
  made_behind place [] same = omega arith
  made_behind place (x ∷ xs) same = omega (arith, by_test (test x) (made_behind (place + 1) xs later), sum_by-cons (counted test most) x xs)
    where
      here : slice_get all place ≡ Some x
      here = let e : place ≡ place + 0 = omega arith in ap (slice_get all) e ∙ same 0

      later : (j : ℕ) → slice_get all (place + 1 + j) ≡ slice_get xs j
      later j = let e : place + 1 + j ≡ place + suc j = omega arith in ap (slice_get all) e ∙ same (suc j)

      by_test : (b : Bool) → length (flat_map made_at (places_from test (place + 1) xs)) ≤ sum_by (counted test most) xs
          → length (flat_map made_at (cond b (place ∷ places_from test (place + 1) xs) (places_from test (place + 1) xs))) ≤ cond b (most x) 0 + sum_by (counted test most) xs
      by_test true rest =
          let first : length (made_at place) ≡ length (make place x) = ap (λ (o : Option X). length (option_map_or (make place) o [])) here in
          omega (arith, rest, first, each place x, length-append (made_at place) (flat_map made_at (places_from test (place + 1) xs)))
      by_test false rest = omega (arith, rest)

  -- no more is made of the items that pass than they count
  pub made_few : length (flat_map (λ (k : ℕ). option_map_or (make k) (slice_get all k) []) (places_from test 0 all)) ≤ sum_by (counted test most) all
  made_few = made_behind 0 all (λ j. let e : 0 + j ≡ j = omega arith in ap (slice_get all) e)

-- ---- what is made of other items, joined parts, and a list in order

module _ {X Y : Type 0} (f : X → ℕ) where
  -- where one counts at most 1, they count no more than those of which they are made
  pub made_count : (make : ℕ → Y → Option X) → ((k : ℕ) (y : Y) → option_map_or f (make k y) 0 ≤ 1) → (place : ℕ) (ys : List Y) → sum_by f (made_from make place ys) ≤ length ys
  made_count make each place [] = omega arith
  made_count make each place (y ∷ ys) = by_made (make place y) (each place y) (made_count make each (suc place) ys)
    where
      by_made : (o : Option X) → option_map_or f o 0 ≤ 1 → sum_by f (made_from make (suc place) ys) ≤ length ys
          → sum_by f (option_map_or (λ x. x ∷ made_from make (suc place) ys) o (made_from make (suc place) ys)) ≤ suc (length ys)
      by_made None one rest = omega (arith, rest)
      by_made (Some x) one rest = omega (arith, one, rest, sum_by-cons f x (made_from make (suc place) ys))

  pub sum_of_parts : (parts : Y → List X) (ys : List Y) → sum_by f (flat_map parts ys) ≡ sum_by (λ (y : Y). sum_by f (parts y)) ys
  sum_of_parts parts [] = refl
  sum_of_parts parts (y ∷ ys) =
      omega (arith, sum_of_parts parts ys, sum_by-append f (parts y) (flat_map parts ys), sum_by-cons (λ (z : Y). sum_by f (parts z)) y ys)

module _ {X : Type 0} (f : X → ℕ) where
  -- where a sum isn't zero, an item counts
  pub some_counts : (xs : List X) → 0 < sum_by f xs → (x : X) × (In x xs) × (0 < f x)
  some_counts [] some = absurd (omega arith)
  some_counts (x ∷ xs) some = by_first (cases_lt 0 (f x)) (some_counts xs)
    where
      by_first : (0 < f x) ⊎ (f x ≤ 0) → (0 < sum_by f xs → (z : X) × (In z xs) × (0 < f z)) → (z : X) × (In z (x ∷ xs)) × (0 < f z)
      by_first (inl here) rest = (x, inl refl, here)
      by_first (inr none) rest =
          let more : 0 < sum_by f xs = omega (arith, some, none, sum_by-cons f x xs) in
          let found = rest more in (found.0, inr found.1, found.2)

  module _ (cmp : X → X → Ordering) where
    sum_insert : (x : X) (ys : List X) → sum_by f (insert cmp x ys) ≡ f x + sum_by f ys
    sum_insert x [] = sum_by-cons f x []
    sum_insert x (y ∷ ys) = by_test (sum_insert x ys) (is_gt (cmp x y))
      where
        by_test : sum_by f (insert cmp x ys) ≡ f x + sum_by f ys → (b : Bool) → sum_by f (cond b (y ∷ insert cmp x ys) (x ∷ (y ∷ ys))) ≡ f x + sum_by f (y ∷ ys)
        by_test rest true = omega (arith, rest, sum_by-cons f y (insert cmp x ys), sum_by-cons f y ys)
        by_test rest false = sum_by-cons f x (y ∷ ys)

    pub sum_in_order : (xs : List X) → sum_by f (in_order cmp xs) ≡ sum_by f xs
    sum_in_order [] = refl
    sum_in_order (x ∷ xs) = omega (arith, sum_insert x (in_order cmp xs), sum_in_order xs, sum_by-cons f x xs)

-- ---- distinct prefixes

module _ (weight : Cidr → ℕ) where
  -- two of them that count are one
  abbrev pub AreOne : List Cidr → Type 0
  AreOne ps = (p q : Cidr) → In p ps → In q ps → 0 < weight p → 0 < weight q → p ≡ q

  -- beside a prefix that isn't among them, and that is any of them that counts, none does
  none_beside : (p : Cidr) (ps : List Cidr) → ((q : Cidr) → In q (distinct ps) → 0 < weight q → p ≡ q) → list_any (same_prefix p) ps ≡ false → sum_by weight (distinct ps) ≡ 0
  none_beside p [] one none = refl
  none_beside p (q ∷ qs) one none = by_test (list_any (same_prefix q) qs) one (λ others. none_beside p qs others apart.1)
    where
      apart : (same_prefix p q ≡ false) × (list_any (same_prefix p) qs ≡ false)
      apart = or_parts (same_prefix p q) (list_any (same_prefix p) qs) none

      differs : p ≡ q → ⊥
      differs e =
          let same : same_prefix p q ≡ true = ap (same_prefix p) (sym e) ∙ same_itself p in
          let other : same_prefix p q ≡ false = apart.0 in
          absurd cc

      by_test : (b : Bool) → ((r : Cidr) → In r (cond b (distinct qs) (q ∷ distinct qs)) → 0 < weight r → p ≡ r)
          → (((r : Cidr) → In r (distinct qs) → 0 < weight r → p ≡ r) → sum_by weight (distinct qs) ≡ 0) → sum_by weight (cond b (distinct qs) (q ∷ distinct qs)) ≡ 0
      by_test true these rest = rest these
      by_test false these rest = elim (cases_lt 0 (weight q)) [
        | inl counts ↦ absurd (differs (these q (inl refl) counts))
        | inr zero ↦ omega (arith, rest (λ r i. these r (inr i)), zero, sum_by-cons weight q (distinct qs))
      ]

  -- so they count no more than one
  pub most_of_one : (most : ℕ) → ((p : Cidr) → weight p ≤ most) → (ps : List Cidr) → AreOne (distinct ps) → sum_by weight (distinct ps) ≤ most
  most_of_one most each [] one = omega arith
  most_of_one most each (p ∷ ps) one = by_test (list_any (same_prefix p) ps) refl one (most_of_one most each ps)
    where
      by_test : (b : Bool) → list_any (same_prefix p) ps ≡ b → AreOne (cond b (distinct ps) (p ∷ distinct ps)) → (AreOne (distinct ps) → sum_by weight (distinct ps) ≤ most)
          → sum_by weight (cond b (distinct ps) (p ∷ distinct ps)) ≤ most
      by_test true some these rest = rest these
      by_test false none these rest = elim (cases_lt 0 (weight p)) [
        | inl counts ↦
            let others : sum_by weight (distinct ps) ≡ 0 = none_beside p ps (λ q i more. these p q (inl refl) (inr i) counts more) none in
            omega (arith, each p, others, sum_by-cons weight p (distinct ps))
        | inr zero ↦ omega (arith, rest (λ q r i j. these q r (inr i) (inr j)), zero, sum_by-cons weight p (distinct ps))
      ]
