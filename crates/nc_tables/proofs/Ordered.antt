-- Items of a list in order, of what is made of other items at their places, and of places.
use Rattle.std.proofs.Common.{◌≡◌, ℕ, zero, suc, ◌+◌, ◌<◌, Bool, true, false, cond, ◌||◌, List, [], ◌∷◌, length, Option, Some, None, refl, sym, ap, subst, ◌∙◌, arith, inl, inr}
use Rattle.std.specs.List.{list_any, slice_get}
use Rattle.std.specs.Option.{option_map_or}
use Rattle.std.specs.declared.cmp.Ordering.{Ordering}
use Rattle.std.specs.Ordering.{is_gt}
use Rattle.nc_types.proofs.Members.{In}
use Rattle.nc_tables.specs.Order.{insert, in_order}
use Rattle.nc_tables.specs.Longest.{places_from}
use Rattle.nc_tables.specs.Rounds.{made_from}
use Rattle.nc_tables.specs.Sessions.{first_of}

-- ---- a list in order

module _ {X : Type 0} (cmp : X → X → Ordering) where
  pub in_by_insert : (x : X) (ys : List X) (z : X) → In z (insert cmp x ys) → In z (x ∷ ys)
  in_by_insert x [] z i = i
  in_by_insert x (y ∷ ys) z i = by_test (in_by_insert x ys z) (is_gt (cmp x y)) i
    where
      later : In z (x ∷ ys) → In z (x ∷ (y ∷ ys))
      later (inl e) = inl e
      later (inr j) = inr (inr j)

      by_test : (In z (insert cmp x ys) → In z (x ∷ ys)) → (b : Bool) → In z (cond b (y ∷ insert cmp x ys) (x ∷ (y ∷ ys))) → In z (x ∷ (y ∷ ys))
      by_test rest false j = j
      by_test rest true (inl e) = inr (inl e)
      by_test rest true (inr j) = later (rest j)

  pub in_insert : (x : X) (ys : List X) (z : X) → In z (x ∷ ys) → In z (insert cmp x ys)
  in_insert x [] z i = i
  in_insert x (y ∷ ys) z i = by_test (in_insert x ys z) (is_gt (cmp x y)) i
    where
      by_test : (In z (x ∷ ys) → In z (insert cmp x ys)) → (b : Bool) → In z (x ∷ (y ∷ ys)) → In z (cond b (y ∷ insert cmp x ys) (x ∷ (y ∷ ys)))
      by_test rest false j = j
      by_test rest true (inl e) = inr (rest (inl e))
      by_test rest true (inr (inl e)) = inl e
      by_test rest true (inr (inr j)) = inr (rest (inr j))

  pub in_by_order : (xs : List X) (z : X) → In z (in_order cmp xs) → In z xs
  in_by_order [] z i = i
  in_by_order (x ∷ xs) z i = by_cases (in_by_order xs z) (in_by_insert x (in_order cmp xs) z i)
    where
      by_cases : (In z (in_order cmp xs) → In z xs) → In z (x ∷ in_order cmp xs) → In z (x ∷ xs)
      by_cases rest (inl e) = inl e
      by_cases rest (inr j) = inr (rest j)

  pub in_its_order : (xs : List X) (z : X) → In z xs → In z (in_order cmp xs)
  in_its_order [] z i = i
  in_its_order (x ∷ xs) z (inl e) = in_insert x (in_order cmp xs) z (inl e)
  in_its_order (x ∷ xs) z (inr i) = in_insert x (in_order cmp xs) z (inr (in_its_order xs z i))

  length_insert : (x : X) (ys : List X) → length (insert cmp x ys) ≡ suc (length ys)
  length_insert x [] = refl
  length_insert x (y ∷ ys) = by_test (length_insert x ys) (is_gt (cmp x y))
    where
      by_test : length (insert cmp x ys) ≡ suc (length ys) → (b : Bool) → length (cond b (y ∷ insert cmp x ys) (x ∷ (y ∷ ys))) ≡ suc (suc (length ys))
      by_test rest false = refl
      by_test rest true = ap suc rest

  pub length_in_order : (xs : List X) → length (in_order cmp xs) ≡ length xs
  length_in_order [] = refl
  length_in_order (x ∷ xs) = length_insert x (in_order cmp xs) ∙ ap suc (length_in_order xs)

-- ---- what is made of other items

module _ {X : Type 0} where
  -- an item is made of the item at a place
  abbrev pub IsMade : {Y : Type 0} → (ℕ → Y → Option X) → ℕ → List Y → X → Type 0
  IsMade {Y = Y} make place ys z = (k : ℕ) × (y : Y) × (slice_get ys k ≡ Some y) × (make (place + k) y ≡ Some z)

  made_later : {Y : Type 0} (make : ℕ → Y → Option X) (place : ℕ) (y : Y) (ys : List Y) (z : X) → IsMade make (suc place) ys z → IsMade make place (y ∷ ys) z
  made_later make place y ys z r =
      let e : place + suc r.0 ≡ suc place + r.0 = omega arith in
      (suc r.0, r.1, r.2, subst (λ (n : ℕ). make n r.1 ≡ Some z) (sym e) r.3)

  made_here : {Y : Type 0} (make : ℕ → Y → Option X) (place : ℕ) (y : Y) (ys : List Y) (z : X) → make place y ≡ Some z → IsMade make place (y ∷ ys) z
  made_here make place y ys z made =
      let e : place + 0 ≡ place = omega arith in
      (zero, y, refl, subst (λ (n : ℕ). make n y ≡ Some z) (sym e) made)

  pub in_by_made : {Y : Type 0} (make : ℕ → Y → Option X) (place : ℕ) (ys : List Y) (z : X) → In z (made_from make place ys) → IsMade make place ys z
  in_by_made make place [] z i = absurd i
  in_by_made make place (y ∷ ys) z i = by_here (in_by_made make (suc place) ys z) (make place y) refl i
    where
      by_here : (In z (made_from make (suc place) ys) → IsMade make (suc place) ys z) → (o : Option X) → make place y ≡ o → In z (option_map_or (λ x. x ∷ made_from make (suc place) ys) o (made_from make (suc place) ys)) → IsMade make place (y ∷ ys) z
      by_here rest None e j = made_later make place y ys z (rest j)
      by_here rest (Some x) e (inl same) = made_here make place y ys z (e ∙ ap Some same)
      by_here rest (Some x) e (inr j) = made_later make place y ys z (rest j)

  pub in_by_first : (xs : List X) (z : X) → In z (option_map_or (λ x. x ∷ []) (first_of xs) []) → In z xs
  in_by_first [] z i = i
  in_by_first (x ∷ xs) z (inl same) = inl same
  in_by_first (x ∷ xs) z (inr i) = absurd i

  -- ---- places of items that pass a test

  pub place_within : (test : X → Bool) (place : ℕ) (xs : List X) (k : ℕ) → In k (places_from test place xs) → k < place + length xs
  place_within test place [] k i = absurd i
  place_within test place (x ∷ xs) k i = by_test (place_within test (place + 1) xs k) (test x) i
    where
      by_test : (In k (places_from test (place + 1) xs) → k < (place + 1) + length xs) → (b : Bool) → In k (cond b (place ∷ places_from test (place + 1) xs) (places_from test (place + 1) xs)) → k < place + suc (length xs)
      by_test rest true (inl same) = omega arith
      by_test rest true (inr j) = let lt : k < (place + 1) + length xs = rest j in omega arith
      by_test rest false j = let lt : k < (place + 1) + length xs = rest j in omega arith

  -- where an item passes there is a place
  pub some_place : (test : X → Bool) (place : ℕ) (xs : List X) → list_any test xs ≡ true → 0 < length (places_from test place xs)
  some_place test place [] e = absurd (cc)
  some_place test place (x ∷ xs) e = by_test (some_place test (place + 1) xs) (test x) e
    where
      by_test : (list_any test xs ≡ true → 0 < length (places_from test (place + 1) xs)) → (b : Bool) → (b || list_any test xs) ≡ true → 0 < length (cond b (place ∷ places_from test (place + 1) xs) (places_from test (place + 1) xs))
      by_test rest true e = omega arith
      by_test rest false e = rest e
