-- Items of lists that a test finds, and that a choice adds.
use Rattle.std.proofs.Common.{◌≡◌, ℕ, zero, suc, ◌+◌, ◌<◌, ◌≤◌, Bool, true, false, cond, List, [], ◌∷◌, get_or, map, Option, Some, None, All, refl, sym, ap, subst, ◌∙◌, arith, inl, inr}
use Rattle.std.specs.List.{find, flat_map, range_with_len, slice_get, slice_index_or, position}
use Rattle.std.specs.Option.{option_map_or, unwrap_or}
use Rattle.std.proofs.lemmas.Bool.{cases_lt}
use Rattle.std.proofs.lemmas.List.Elements.{All-nil, All-cons}
use Rattle.std.proofs.lemmas.List.Quantifiers.{position-Some}
use Rattle.std.proofs.lemmas.Option.{slice_get-get_or, get_or_from_slice_get, unwrap_or-slice_get}
use Rattle.nc_types.proofs.Members.{In, in_left, in_right}

module _ {X : Type 0} where
  -- the first item that passes
  pub at_position : (p : X → Bool) (xs : List X) (k : ℕ) → position p xs ≡ Some k → (x : X) × (slice_get xs k ≡ Some x) × (p x ≡ true)
  at_position p [] k e = absurd (cc)
  at_position p (x ∷ xs) k e =
      let first = position-Some p (x ∷ xs) k x e in
      (get_or (x ∷ xs) k x, slice_get-get_or (x ∷ xs) k x first.0, first.1)

  -- the item that is found passes
  pub in_by_find : (p : X → Bool) (xs : List X) (x : X) → find p xs ≡ Some x → In x xs × (p x ≡ true)
  in_by_find p [] x e = absurd (cc)
  in_by_find p (y ∷ xs) x e = by_test (in_by_find p xs x) (p y) refl e
    where
      by_test : (find p xs ≡ Some x → In x xs × (p x ≡ true)) → (b : Bool) → p y ≡ b → cond b (Some y) (find p xs) ≡ Some x → In x (y ∷ xs) × (p x ≡ true)
      by_test rest true test is = let same : y ≡ x = cc in (inl same, subst (λ (z : X). p z ≡ true) same test)
      by_test rest false test is = let later = rest is in (inr later.0, later.1)

  -- ---- what holds of each item that a choice adds

  pub all_of_one : (P : X → Type 0) (x : X) → P x → All P (x ∷ [])
  all_of_one P x here = All-cons P x [] here (All-nil P)

  pub all_of_three : (P : X → Type 0) (x y z : X) → P x → P y → P z → All P (x ∷ (y ∷ (z ∷ [])))
  all_of_three P x y z first second third = All-cons P x (y ∷ (z ∷ [])) first (All-cons P y (z ∷ []) second (all_of_one P z third))

  pub all_by_option : {Y : Type 0} (P : X → Type 0) (f : Y → List X) (o : Option Y) → ((y : Y) → o ≡ Some y → All P (f y)) → All P (option_map_or f o [])
  all_by_option P f None each = All-nil P
  all_by_option P f (Some y) each = each y refl

-- a number of a range is below its end
pub in_range : (from count k : ℕ) → In k (range_with_len from count) → k < from + count
in_range from zero k i = absurd i
in_range from (suc count) k (inl same) = omega arith
in_range from (suc count) k (inr i) = let lt : k < (from + 1) + count = in_range (from + 1) count k i in omega arith

-- the item of a list made of the numbers below a bound
pub get_by_range : {X : Type 0} (f : ℕ → X) (from count k : ℕ) → k < count → slice_get (map f (range_with_len from count)) k ≡ Some (f (from + k))
get_by_range f from zero k lt = absurd (omega arith)
get_by_range f from (suc count) zero lt = let e : from + 0 ≡ from = omega arith in ap (λ (n : ℕ). Some (f n)) (sym e)
get_by_range f from (suc count) (suc k) lt = let e : (from + 1) + k ≡ from + suc k = omega arith in get_by_range f (from + 1) count k (omega arith) ∙ ap (λ (n : ℕ). Some (f n)) e

pub get_past : {X : Type 0} (f : ℕ → X) (from count k : ℕ) → count ≤ k → slice_get (map f (range_with_len from count)) k ≡ None
get_past f from zero k le = refl
get_past f from (suc count) zero le = absurd (omega arith)
get_past f from (suc count) (suc k) le = get_past f (from + 1) count k (omega arith)

-- an item of the list that is made for a number is in what is made of the number
pub in_by_router : {X : Type 0} (f : ℕ → List X) (count router : ℕ) (x : X) → In x (slice_index_or (map f (range_with_len 0 count)) router []) → In x (f router)
in_by_router f count router x i = elim (cases_lt router count) [
  | inl lt ↦ let e : 0 + router ≡ router = omega arith in subst (In x) (get_or_from_slice_get (map f (range_with_len 0 count)) router (f (0 + router)) [] (get_by_range f 0 count router lt) ∙ ap f e) i
  | inr le ↦ absurd (subst (In x) (sym (unwrap_or-slice_get (map f (range_with_len 0 count)) router []) ∙ ap (λ o. unwrap_or o []) (get_past f 0 count router le)) i)
]

-- an item of what is made of an item
pub in_flat_map : {X Y : Type 0} (f : Y → List X) (ys : List Y) (y : Y) (z : X) → In y ys → In z (f y) → In z (flat_map f ys)
in_flat_map f [] y z i j = absurd i
in_flat_map f (x ∷ ys) y z (inl same) j = in_left (f x) (flat_map f ys) z (subst (λ w. In z (f w)) (sym same) j)
in_flat_map f (x ∷ ys) y z (inr i) j = in_right (f x) (flat_map f ys) z (in_flat_map f ys y z i j)
