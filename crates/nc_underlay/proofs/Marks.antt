-- Flags that are raised one after another.
use Rattle.std.proofs.Common.{◌≡◌, ◌≢◌, ℕ, ◌+◌, ◌-◌, ◌<◌, ◌≤◌, Bool, true, false, ◌&&◌, ◌||◌, nat_eq, List, set, length, refl, sym, ap, ◌∙◌, arith, get_or-set_same, get_or-set_other}
use Rattle.std.specs.List.{list_any, range_with_len}
use Rattle.std.proofs.lemmas.Bool.{eqb-true, eq-eqb}
use Rattle.nc_underlay.specs.Levels.{flag, any_flagged}
use Rattle.nc_types.proofs.Truth.{or_assoc, or_false}
use Rattle.nc_underlay.proofs.Flagging.{any_more, flagged_more}

-- a flag after one more place
pub one_more : (test : ℕ → Bool) (before now later : Bool) (from place : ℕ) → from ≤ place → now ≡ (before || list_any test (range_with_len from (place - from))) → later ≡ (now || test place)
    → later ≡ (before || list_any test (range_with_len from (place + 1 - from)))
one_more test before now later from place le upto step =
    step ∙ ap (λ b. b || test place) upto ∙ or_assoc before (list_any test (range_with_len from (place - from))) (test place)
    ∙ ap (λ b. before || b) (sym (any_more test from (place - from) (place + 1 - from) place (omega arith) (omega arith)))

-- raising one flag
pub flagged_one : (flags : List Bool) (router other : ℕ) → router < length flags → flag (set flags router true) other ≡ (flag flags other || nat_eq router other)
flagged_one flags router other lt = by_same (nat_eq router other) refl
  where
    by_same : (b : Bool) → nat_eq router other ≡ b → flag (set flags router true) other ≡ (flag flags other || b)
    by_same true e =
        let is : other ≡ router = sym (eqb-true router other e) in
        ap (flag (set flags router true)) is ∙ get_or-set_same flags router true false lt ∙ sym (or_true (flag flags other))
      where
        or_true : (a : Bool) → (a || true) ≡ true
        or_true true = refl
        or_true false = refl
    by_same false e =
        let differ : other ≢ router = (λ (h : other ≡ router). let same : nat_eq router other ≡ true = eq-eqb router other (sym h) in absurd cc) in
        get_or-set_other flags router other true false differ ∙ sym (or_false (flag flags other))

-- one router more: flagged, or not
pub one_flagged : (level : List Bool) (test : ℕ → Bool) (count : ℕ) (now later : Bool) → now ≡ any_flagged level test count → flag level count ≡ true → later ≡ (now || test count) → later ≡ any_flagged level test (count + 1)
one_flagged level test count now later upto is step =
    step ∙ ap (λ b. b || test count) upto ∙ ap (λ b. any_flagged level test count || (b && test count)) (sym is) ∙ sym (flagged_more level test count (count + 1) (omega arith))

pub none_more : (level : List Bool) (test : ℕ → Bool) (count : ℕ) (now : Bool) → now ≡ any_flagged level test count → flag level count ≡ false → now ≡ any_flagged level test (count + 1)
none_more level test count now upto is =
    upto ∙ sym (or_false (any_flagged level test count)) ∙ ap (λ b. any_flagged level test count || (b && test count)) (sym is) ∙ sym (flagged_more level test count (count + 1) (omega arith))
