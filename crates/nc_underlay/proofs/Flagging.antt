-- Tests over numbers that follow one another.
use Rattle.std.proofs.Common.{◌≡◌, ℕ, zero, suc, ◌+◌, ◌-◌, ◌<◌, ◌≤◌, Bool, true, false, cond, ◌&&◌, ◌||◌, nat_lt, List, [], ◌∷◌, get_or, length, refl, sym, ap, ◌∙◌, arith}
use Rattle.std.proofs.lemmas.Bool.{and_parts, and_from, lt-ltb}
use Rattle.std.specs.List.{list_any, range_with_len, filter}
use Rattle.std.proofs.lemmas.List.Folds.{list_any-append, list_any_at}
use Rattle.std.proofs.lemmas.List.FromFn.{length-range_with_len, get_or-range_with_len}
use Rattle.nc_types.proofs.Placing.{range_more}
use Rattle.nc_types.proofs.Truth.{same_truth, or_false}
use Rattle.nc_underlay.specs.Levels.{flag, any_flagged}

-- ---- truth values

pub not_left : (a b : Bool) → (a || b) ≡ true → a ≡ false → b ≡ true
not_left true b e f = absurd cc
not_left false b e f = e

pub not_true : (a : Bool) → (a ≡ true → ⊥) → a ≡ false
not_true true f = absurd (f refl)
not_true false f = refl

-- ---- numbers from one on

pub any_in : (f : ℕ → Bool) (from n k : ℕ) → from ≤ k → k < from + n → f k ≡ true → list_any f (range_with_len from n) ≡ true
any_in f from n k low high passes =
    let here : from + (k - from) ≡ k = omega arith in
    let count : length (range_with_len from n) ≡ n = length-range_with_len from n in
    let item : get_or (range_with_len from n) (k - from) 0 ≡ k = get_or-range_with_len from n (k - from) 0 (omega arith) ∙ here in
    list_any_at f (range_with_len from n) (k - from) 0 (omega (arith, count)) (ap f item ∙ passes)

pub any_out : (f : ℕ → Bool) (from n : ℕ) → list_any f (range_with_len from n) ≡ true → (k : ℕ) × (from ≤ k) × (k < from + n) × (f k ≡ true)
any_out f from zero e = absurd cc
any_out f from (suc n) e = by_first (f from) refl e (any_out f (from + 1) n)
  where
    by_first : (b : Bool) → f from ≡ b → (b || list_any f (range_with_len (from + 1) n)) ≡ true
        → (list_any f (range_with_len (from + 1) n) ≡ true → (k : ℕ) × (from + 1 ≤ k) × (k < from + 1 + n) × (f k ≡ true)) → (k : ℕ) × (from ≤ k) × (k < from + suc n) × (f k ≡ true)
    by_first true here e later = (from, omega arith, omega arith, here)
    by_first false here e later = let found = later e in (found.0, omega (arith, found.1), omega (arith, found.2), found.3)

pub any_more : (f : ℕ → Bool) (from n m last : ℕ) → m ≡ suc n → last ≡ from + n → list_any f (range_with_len from m) ≡ (list_any f (range_with_len from n) || f last)
any_more f from n m last more is =
    ap (λ (k : ℕ). list_any f (range_with_len from k)) more ∙ ap (list_any f) (range_more from n) ∙ list_any-append f (range_with_len from n) ((from + n) ∷ [])
    ∙ ap (λ (b : Bool). list_any f (range_with_len from n) || b) (or_false (f (from + n)) ∙ ap f (sym is))

-- a test that no other number passes
pub only : (f : ℕ → Bool) (n k : ℕ) → k < n → ((r : ℕ) → f r ≡ true → r ≡ k) → list_any f (range_with_len 0 n) ≡ f k
only f n k lt single = same_truth (list_any f (range_with_len 0 n)) (f k) (λ e. let found = any_out f 0 n e in ap f (sym (single found.0 found.3)) ∙ found.3) (λ e. any_in f 0 n k (omega arith) (omega arith) e)

-- ---- filters

-- what a filter leaves out doesn't pass
pub any_filter : {A : Type 0} (kept test : A → Bool) → ((x : A) → kept x ≡ false → test x ≡ false) → (xs : List A) → list_any test (filter kept xs) ≡ list_any test xs
any_filter kept test out [] = refl
any_filter kept test out (x ∷ xs) = by_kept (kept x) refl ∙ ap (λ (b : Bool). test x || b) (any_filter kept test out xs)
  where
    by_kept : (b : Bool) → kept x ≡ b → list_any test (cond b (x ∷ filter kept xs) (filter kept xs)) ≡ (test x || list_any test (filter kept xs))
    by_kept true e = refl
    by_kept false e = ap (λ (b : Bool). b || list_any test (filter kept xs)) (sym (out x e))

-- ---- flags

pub flagged_in : (flags : List Bool) (test : ℕ → Bool) (count k : ℕ) → k < count → flag flags k ≡ true → test k ≡ true → any_flagged flags test count ≡ true
unfolding any_flagged
flagged_in flags test count k lt is passes = any_in (λ r. flag flags r && test r) 0 count k (omega arith) (omega arith) (and_from (flag flags k) (test k) is passes)

pub flagged_out : (flags : List Bool) (test : ℕ → Bool) (count : ℕ) → any_flagged flags test count ≡ true → (k : ℕ) × (k < count) × (flag flags k ≡ true) × (test k ≡ true)
unfolding any_flagged
flagged_out flags test count e =
    let found = any_out (λ r. flag flags r && test r) 0 count e in
    (found.0, omega (arith, found.2), (and_parts (flag flags found.0) (test found.0) found.3).0, (and_parts (flag flags found.0) (test found.0) found.3).1)

pub flagged_more : (flags : List Bool) (test : ℕ → Bool) (count more : ℕ) → more ≡ suc count → any_flagged flags test more ≡ (any_flagged flags test count || (flag flags count && test count))
unfolding any_flagged
flagged_more flags test count more is = any_more (λ r. flag flags r && test r) 0 count more count is (omega arith)

pub none_flagged : (flags : List Bool) (test : ℕ → Bool) → any_flagged flags test 0 ≡ false
unfolding any_flagged
none_flagged flags test = refl

-- a filter keeps some exactly where one passes
pub some_kept : {A : Type 0} (test : A → Bool) (xs : List A) → nat_lt 0 (length (filter test xs)) ≡ list_any test xs
some_kept test [] = refl
some_kept test (x ∷ xs) = by_test (test x) (some_kept test xs)
  where
    by_test : (b : Bool) → nat_lt 0 (length (filter test xs)) ≡ list_any test xs → nat_lt 0 (length (cond b (x ∷ filter test xs) (filter test xs))) ≡ (b || list_any test xs)
    by_test true e = lt-ltb 0 (suc (length (filter test xs))) (omega arith)
    by_test false e = e
