-- What passes a test in a list: whether anything does, and where.
use Rattle.std.proofs.Common.{◌≡◌, ℕ, ◌+◌, ◌-◌, ◌<◌, Bool, true, false, cond, ◌||◌, nat_lt, List, [], ◌∷◌, length, Option, Some, None, IfSome, refl, sym, ap, subst, ◌∙◌, arith}
use Rattle.std.specs.Prelude.{position}
use Rattle.std.specs.List.{list_any, position_from, range_with_len}
use Rattle.std.proofs.lemmas.Bool.Decides.{nat_tests}
use Rattle.std.proofs.lemmas.Iterator.Adapters.{position_from-zero}
use Rattle.std.proofs.lemmas.List.FromFn.{length-range_with_len}
use Rattle.nc_tables.specs.Longest.{places_from}

module _ {A : Type 0} (test : A → Bool) where
  within_from : (k : ℕ) (xs : List A) → IfSome (position_from test k xs) (λ j. j < k + length xs)
  within_from k [] = tt
  within_from k (x ∷ xs) = on (test x) (position_from test (k + 1) xs) (within_from (k + 1) xs)
    where
      later : (o : Option ℕ) → IfSome o (λ j. j < k + 1 + length xs) → IfSome o (λ j. j < k + length (x ∷ xs))
      later None lt = tt
      later (Some j) lt = let less : j < k + 1 + length xs = lt in omega arith

      on : (b : Bool) (o : Option ℕ) → IfSome o (λ j. j < k + 1 + length xs) → IfSome (cond b (Some k) o) (λ j. j < k + length (x ∷ xs))
      on true o lt = omega arith
      on false o lt = later o lt

  -- the place of something is within the list
  pub found_within : (xs : List A) (o : Option ℕ) → o ≡ position test xs → IfSome o (λ j. j < length xs)
  found_within xs o e =
      let same : o ≡ position_from test 0 xs = e ∙ position_from-zero test xs in
      from_zero o (subst (λ (p : Option ℕ). IfSome p (λ j. j < 0 + length xs)) (sym same) (within_from 0 xs))
    where
      from_zero : (o : Option ℕ) → IfSome o (λ j. j < 0 + length xs) → IfSome o (λ j. j < length xs)
      from_zero None lt = tt
      from_zero (Some j) lt = let less : j < 0 + length xs = lt in omega arith

  -- there is a place at which something passes
  some_place : (k : ℕ) (xs : List A) → list_any test xs ≡ nat_lt 0 (length (places_from test k xs))
  some_place k [] = refl
  some_place k (x ∷ xs) = on (test x) (some_place (k + 1) xs)
    where
      on : (b : Bool) → list_any test xs ≡ nat_lt 0 (length (places_from test (k + 1) xs)) → (b || list_any test xs) ≡ nat_lt 0 (length (cond b (k ∷ places_from test (k + 1) xs) (places_from test (k + 1) xs)))
      on true more = grind (arith, nat_tests)
      on false more = more

-- something passes, where the places of what passes are these numbers
pub placed_between : {A : Type 0} (test : A → Bool) (xs : List A) (from to : ℕ) → places_from test 0 xs ≡ range_with_len from (to - from) → nat_lt from to ≡ list_any test xs
placed_between test xs from to places =
    let count : length (places_from test 0 xs) ≡ to - from = ap (length {A = ℕ}) places ∙ length-range_with_len from (to - from) in
    let same : nat_lt from to ≡ nat_lt 0 (to - from) = grind (arith, nat_tests) in
    same ∙ ap (nat_lt 0) (sym count) ∙ sym (some_place test 0 xs)
