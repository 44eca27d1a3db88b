-- Tests over places that follow one another.
use Rattle.std.proofs.Common.{◌≡◌, ℕ, ◌-◌, ◌<◌, ◌≤◌, Bool, true, false, ◌&&◌, nat_eq, nat_le, ◌⊎◌, List, filter, refl, sym, ap, arith, inl, inr}
use Rattle.std.specs.List.{list_any, range_with_len}
use Rattle.std.proofs.lemmas.Bool.{eqb-true, eq-eqb, leb-true}
use Rattle.std.proofs.lemmas.Map.Views.{any-filter_same}
use Rattle.nc_underlay.proofs.Flagging.{not_true, any_in, any_out}

-- a number is in a range that begins no later and ends behind it, and in no other
pub in_range : (from to k : ℕ) → from ≤ k → k < to → list_any (nat_eq k) (range_with_len from (to - from)) ≡ true
in_range from to k low high = any_in (nat_eq k) from (to - from) k low (omega (arith, low, high)) (eq-eqb k k refl)

pub not_in_range : (from to k : ℕ) → (k < from) ⊎ (to ≤ k) → list_any (nat_eq k) (range_with_len from (to - from)) ≡ false
not_in_range from to k out = not_true (list_any (nat_eq k) (range_with_len from (to - from))) (λ e.
    let found = any_out (nat_eq k) from (to - from) e in
    let same : k ≡ found.0 = eqb-true k found.0 found.3 in
    elim out [ inl low ↦ omega (arith, same, low, found.1) | inr high ↦ omega (arith, same, high, found.2) ])

-- a number is among those of a list that pass exactly where it is in the list and passes
pub among : (test : ℕ → Bool) (k : ℕ) (ks : List ℕ) → list_any (nat_eq k) (filter test ks) ≡ (test k && list_any (nat_eq k) ks)
among test k ks = any-filter_same (nat_eq k) test (test k) (λ j e. ap test (sym (eqb-true k j e))) ks

-- ---- truth values

pub above : (n most : ℕ) → most < n → nat_le n most ≡ false
above n most lt = not_true (nat_le n most) (λ e. let le : n ≤ most = leb-true n most e in omega (arith, le, lt))

pub and_true : (b : Bool) → (b && true) ≡ b
and_true true = refl
and_true false = refl

pub and_false : (b : Bool) → (b && false) ≡ false
and_false true = refl
and_false false = refl
