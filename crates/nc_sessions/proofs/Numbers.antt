-- Numbers that follow one another: the first that passes a test, and what they make one by one.
use Rattle.std.proofs.Common.{◌≡◌, ℕ, suc, ◌+◌, ◌-◌, ◌<◌, Bool, false, cond, List, [], ◌∷◌, ◌++◌, filter, map, Option, Some, None, sym, ap, ◌∙◌, arith}
use Rattle.std.specs.List.{range_with_len, filter_map, cons_option}
use Rattle.std.proofs.lemmas.List.{map_push, append-nil}
use Rattle.std.proofs.lemmas.List.Elements.{filter_map-append}
use Rattle.nc_types.proofs.Placing.{range_more}
use Rattle.nc_tables.specs.Sessions.{first_of}

-- the first doesn't pass
pub first_later : (test : ℕ → Bool) (from to : ℕ) → from < to → test from ≡ false
    → first_of (filter test (range_with_len from (to - from))) ≡ first_of (filter test (range_with_len (from + 1) (to - (from + 1))))
first_later test from to lt e =
    let more : to - from ≡ suc (to - (from + 1)) = omega arith in
    let rest : List ℕ = filter test (range_with_len (from + 1) (to - (from + 1))) in
    ap (λ (n : ℕ). first_of (filter test (range_with_len from n))) more ∙ ap (λ (b : Bool). first_of (cond b (from ∷ rest) rest)) e

-- one number more
range_push : (n : ℕ) → range_with_len 0 (n + 1) ≡ range_with_len 0 n ++ n ∷ []
range_push n =
    let more : n + 1 ≡ suc n = omega arith in
    let last : 0 + n ≡ n = omega arith in
    ap (range_with_len 0) more ∙ range_more 0 n ∙ ap (λ (k : ℕ). range_with_len 0 n ++ k ∷ []) last

module _ {A : Type 0} (n : ℕ) where
  pub each_more : (f : ℕ → A) → map f (range_with_len 0 (n + 1)) ≡ map f (range_with_len 0 n) ++ f n ∷ []
  each_more f = ap (map f) (range_push n) ∙ map_push f (range_with_len 0 n) n

  made_more : (f : ℕ → Option A) (o : Option A) → f n ≡ o → filter_map f (range_with_len 0 (n + 1)) ≡ filter_map f (range_with_len 0 n) ++ cons_option o []
  made_more f o e =
      ap (filter_map f) (range_push n) ∙ filter_map-append f (range_with_len 0 n) (n ∷ []) ∙ ap (λ (p : Option A). filter_map f (range_with_len 0 n) ++ cons_option p []) e

  -- it makes an item
  pub made_one : (f : ℕ → Option A) (x : A) (xs : List A) → f n ≡ Some x → xs ≡ filter_map f (range_with_len 0 n) → xs ++ x ∷ [] ≡ filter_map f (range_with_len 0 (n + 1))
  made_one f x xs e so_far = ap (λ (ys : List A). ys ++ x ∷ []) so_far ∙ sym (made_more f (Some x) e)

  -- it makes none
  pub made_none : (f : ℕ → Option A) (xs : List A) → f n ≡ None → xs ≡ filter_map f (range_with_len 0 n) → xs ≡ filter_map f (range_with_len 0 (n + 1))
  made_none f xs e so_far = so_far ∙ sym (made_more f None e ∙ append-nil (filter_map f (range_with_len 0 n)))
