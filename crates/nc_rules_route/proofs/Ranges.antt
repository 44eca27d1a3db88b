-- What is made of the numbers of a range that pass a test, one number after another.
use Rattle.std.proofs.Common.{◌≡◌, ℕ, zero, suc, ◌+◌, ◌-◌, ◌≤◌, Bool, true, false, cond, ◌&&◌, List, [], ◌∷◌, ◌++◌, map, filter, refl, sym, ap, ◌∙◌, arith}
use Rattle.std.specs.List.{range_with_len}
use Rattle.std.proofs.lemmas.List.{map-append, append_assoc, append-nil}
use Rattle.std.proofs.lemmas.List.Elements.{filter-append}
use Rattle.nc_types.proofs.Placing.{range_more}

-- what is made of the numbers from one up to another
abbrev pub made_between : {X : Type 0} → (ℕ → X) → (ℕ → Bool) → ℕ → ℕ → List X
made_between make test from to = map make (filter test (range_with_len from (to - from)))

module _ {X : Type 0} (make : ℕ → X) (test : ℕ → Bool) where
  pub made_none : (from : ℕ) → made_between make test from from ≡ []
  made_none from = let e : from - from ≡ 0 = omega arith in ap (λ (n : ℕ). map make (filter test (range_with_len from n))) e

  pub made_more : (from to : ℕ) → from ≤ to → made_between make test from (to + 1) ≡ made_between make test from to ++ cond (test to) (make to ∷ []) []
  made_more from to le =
      let n : (to + 1) - from ≡ suc (to - from) = omega arith in
      let last : from + (to - from) ≡ to = omega arith in
      ap (λ (k : ℕ). map make (filter test (range_with_len from k))) n ∙ ap (λ (ks : List ℕ). map make (filter test ks)) (range_more from (to - from))
      ∙ ap (map make) (filter-append test (range_with_len from (to - from)) ((from + (to - from)) ∷ [])) ∙ map-append make (filter test (range_with_len from (to - from))) (filter test ((from + (to - from)) ∷ []))
      ∙ ap (λ (k : ℕ). made_between make test from to ++ map make (filter test (k ∷ []))) last ∙ ap (λ (ks : List X). made_between make test from to ++ ks) (by_test (test to))
    where
      by_test : (b : Bool) → map make (cond b (to ∷ []) []) ≡ cond b (make to ∷ []) []
      by_test true = refl
      by_test false = refl

  -- of which those are kept that pass a further test
  pub kept_more : (p : X → Bool) (from to : ℕ) → from ≤ to → filter p (made_between make test from (to + 1)) ≡ filter p (made_between make test from to) ++ cond (test to && p (make to)) (make to ∷ []) []
  kept_more p from to le =
      ap (filter p) (made_more from to le) ∙ filter-append p (made_between make test from to) (cond (test to) (make to ∷ []) []) ∙ ap (λ (ks : List X). filter p (made_between make test from to) ++ ks) (by_test (test to))
    where
      by_test : (b : Bool) → filter p (cond b (make to ∷ []) []) ≡ cond (b && p (make to)) (make to ∷ []) []
      by_test true = refl
      by_test false = refl

-- where each number passes, all are kept
pub each_kept : (from n : ℕ) → filter (λ _. true) (range_with_len from n) ≡ range_with_len from n
each_kept from zero = refl
each_kept from (suc n) = ap (λ (ks : List ℕ). from ∷ ks) (each_kept (from + 1) n)

-- ---- one more number

module _ {X : Type 0} (old into before after : List X) (x : X) (b : Bool) (so_far : into ≡ old ++ before) (more : after ≡ before ++ cond b (x ∷ []) []) where
  pub taken : b ≡ true → into ++ x ∷ [] ≡ old ++ after
  taken passes = ap (λ (xs : List X). xs ++ x ∷ []) so_far ∙ append_assoc old before (x ∷ []) ∙ ap (λ (xs : List X). old ++ xs) (sym (more ∙ ap (λ (t : Bool). before ++ cond t (x ∷ []) []) passes))

  pub passed_over : b ≡ false → into ≡ old ++ after
  passed_over fails = so_far ∙ ap (λ (xs : List X). old ++ xs) (sym (more ∙ ap (λ (t : Bool). before ++ cond t (x ∷ []) []) fails ∙ append-nil before))
