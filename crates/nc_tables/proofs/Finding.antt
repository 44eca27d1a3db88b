-- What is found in a list: the first that passes a test.
use Rattle.std.proofs.Common.{◌≡◌, ℕ, zero, suc, ◌+◌, ◌-◌, ◌<◌, ◌≤◌, Bool, true, false, cond, ◌||◌, List, [], ◌∷◌, length, map, get_or, All, Some, None, refl, sym, ap, ◌∙◌, arith}
use Rattle.std.specs.List.{find, list_any, slice_get, range_with_len}
use Rattle.std.specs.Option.{option_map, is_some}
use Rattle.nc_tables.specs.Longest.{places_from}
use Rattle.nc_tables.proofs.LongestPrefix.{none_by_places}

module _ {A : Type 0} (test : A → Bool) where
  pub found_at : (xs : List A) (i : ℕ) (d : A) → i < length xs → ((k : ℕ) → k < i → test (get_or xs k d) ≡ false) → test (get_or xs i d) ≡ true → find test xs ≡ Some (get_or xs i d)
  found_at [] i d lt before here = absurd (omega arith)
  found_at (x ∷ xs) zero d lt before here = ap (λ (b : Bool). cond b (Some x) (find test xs)) here
  found_at (x ∷ xs) (suc i) d lt before here =
      ap (λ (b : Bool). cond b (Some x) (find test xs)) (before 0 (omega arith))
      ∙ found_at xs i d (omega arith) (λ k less. before (suc k) (omega arith)) here

  pub found_none : (xs : List A) → All (λ x. test x ≡ false) xs → find test xs ≡ None
  found_none [] none = refl
  found_none (x ∷ xs) none =
      ap (λ (b : Bool). cond b (Some x) (find test xs)) (none 0 x (omega arith))
      ∙ found_none xs (λ k d lt. none (suc k) d (omega arith))

  pub any_is_found : (xs : List A) → list_any test xs ≡ is_some (find test xs)
  any_is_found [] = refl
  any_is_found (x ∷ xs) = on (test x) (any_is_found xs)
    where
      on : (b : Bool) → list_any test xs ≡ is_some (find test xs) → (b || list_any test xs) ≡ is_some (cond b (Some x) (find test xs))
      on true more = refl
      on false more = more

  -- the first of the places
  first_place : (place : ℕ) (xs : List A) (p : ℕ) (ps : List ℕ) → places_from test place xs ≡ p ∷ ps → (place ≤ p) × (find test xs ≡ slice_get xs (p - place))
  first_place place [] p ps e = absurd cc
  first_place place (x ∷ xs) p ps e = on (test x) refl (first_place (place + 1) xs p ps)
    where
      on : (b : Bool) → test x ≡ b → (places_from test (place + 1) xs ≡ p ∷ ps → (place + 1 ≤ p) × (find test xs ≡ slice_get xs (p - (place + 1)))) → (place ≤ p) × (find test (x ∷ xs) ≡ slice_get (x ∷ xs) (p - place))
      on true is more =
          let here : place ∷ places_from test (place + 1) xs ≡ p ∷ ps = ap (λ (b : Bool). cond b (place ∷ places_from test (place + 1) xs) (places_from test (place + 1) xs)) (sym is) ∙ e in
          let same : place ≡ p = cc in
          let none : p - place ≡ 0 = omega arith in
          (omega arith, ap (λ (b : Bool). cond b (Some x) (find test xs)) is ∙ sym (ap (slice_get (x ∷ xs)) none))
      on false is more =
          let rest : places_from test (place + 1) xs ≡ p ∷ ps = ap (λ (b : Bool). cond b (place ∷ places_from test (place + 1) xs) (places_from test (place + 1) xs)) (sym is) ∙ e in
          let behind : place + 1 ≤ p = (more rest).0 in
          let less : p - place ≡ suc (p - (place + 1)) = omega arith in
          (omega arith, ap (λ (b : Bool). cond b (Some x) (find test xs)) is ∙ (more rest).1 ∙ sym (ap (slice_get (x ∷ xs)) less))

  -- what is found, by the places that pass
  pub found_first : (xs : List A) (from n : ℕ) → places_from test 0 xs ≡ range_with_len from n → 0 < n → find test xs ≡ slice_get xs from
  found_first xs from zero places some = absurd (omega arith)
  found_first xs from (suc n) places some =
      let first : find test xs ≡ slice_get xs (from - 0) = (first_place 0 xs from (range_with_len (from + 1) n) places).1 in
      let same : from - 0 ≡ from = omega arith in
      first ∙ ap (slice_get xs) same

  pub found_nowhere : (xs : List A) (from n : ℕ) → places_from test 0 xs ≡ range_with_len from n → n ≡ 0 → find test xs ≡ None
  found_nowhere xs from n places none = found_none xs (none_by_places test 0 xs (places ∙ ap (range_with_len from) none))

pub find_map : {A B : Type 0} (f : A → B) (test : B → Bool) (xs : List A) → find test (map f xs) ≡ option_map f (find (λ x. test (f x)) xs)
find_map f test [] = refl
find_map f test (x ∷ xs) = on (test (f x)) (find_map f test xs)
  where
    on : (b : Bool) → find test (map f xs) ≡ option_map f (find (λ x. test (f x)) xs) → cond b (Some (f x)) (find test (map f xs)) ≡ option_map f (cond b (Some x) (find (λ x. test (f x)) xs))
    on true more = refl
    on false more = more
