-- Numbers of routers that get smaller, and those that stay.
use Rattle.std.proofs.Common.{◌≡◌, ℕ, zero, suc, ◌+◌, ◌<◌, ◌≤◌, Bool, true, false, ◌&&◌, ◌||◌, nat_eq, nat_le, List, length, map, drop, get_or, slice_set, replicate, refl, sym, ap, subst, ◌∙◌, arith, inl, inr, get_or-set_same, get_or-set_other}
use Rattle.std.specs.List.{list_any, list_all, sum_by}
use Rattle.std.proofs.lemmas.Bool.{cases_lt, eqb-true, eq-eqb, leb-true, ltb-true, lt-ltb}
use Rattle.std.proofs.lemmas.List.Sums.{sum_by-set}
use Rattle.nc_types.proofs.Truth.{same_truth}
use Rattle.nc_types.proofs.Walks.{drop_view}
use Rattle.nc_types.specs.declared.TheConstants.{HOP_LIMIT}
use Rattle.nc_underlay.specs.Distances.{fewest_of, is_earlier, AreRight, AreFewest}
use Rattle.nc_underlay.proofs.Fewest.{IsStepped, level, never}

module _ (over : ℕ → ℕ → Bool) (step : (ℕ → Bool) → ℕ → Bool) (is : IsStepped over step) (fewest : List ℕ) where
  abbrev Backed : List ℕ → Type 0
  Backed numbers = (router hops : ℕ) → hops ≤ HOP_LIMIT → nat_le (fewest_of numbers router) hops ≡ true → step (is_earlier numbers hops) router ≡ true

  abbrev Least : ℕ → Type 0
  Least router = (hops : ℕ) → hops ≤ HOP_LIMIT → step (is_earlier fewest hops) router ≡ true → nat_le (fewest_of fewest router) hops ≡ true

  -- ---- numbers that stay are the fewest

  module _ (backed : Backed fewest) (least : (router : ℕ) → Least router) where
    right_below : (hops : ℕ) → hops ≤ suc HOP_LIMIT → AreRight over hops fewest
    right_below zero few router k lt = absurd (omega (arith, lt))
    right_below (suc hops) few router k lt = elim (cases_lt k hops) [
      | inl less ↦ right_below hops (omega (arith, few)) router k less
      | inr most ↦
          let here : hops ≡ k = omega (arith, most, lt) in
          let within : hops ≤ HOP_LIMIT = omega (arith, few) in
          subst (λ (n : ℕ). nat_le (fewest_of fewest router) n ≡ over n router) here
          (same_truth (nat_le (fewest_of fewest router) hops) (step (is_earlier fewest hops) router) (backed router hops within) (least router hops within)
          ∙ level over step is hops fewest (right_below hops (omega (arith, few))) router)
    ]

    pub fewest_stay : AreFewest over fewest
    fewest_stay = record { hops = λ router hops few. right_below (suc HOP_LIMIT) (omega arith) router hops (omega (arith, few)) }

  -- ---- a number that gets smaller

  module _ (router hops : ℕ) (within : router < length fewest) (less : hops < fewest_of fewest router) where
    abbrev after : List ℕ
    after = slice_set fewest router hops

    at_router : fewest_of after router ≡ hops
    at_router = get_or-set_same fewest router hops (suc HOP_LIMIT) within

    at_other : (r : ℕ) → nat_eq r router ≡ false → fewest_of after r ≡ fewest_of fewest r
    at_other r differ = get_or-set_other fewest router r hops (suc HOP_LIMIT) (λ e. let yes = eq-eqb r router e in absurd cc)

    no_larger : (r : ℕ) → fewest_of after r ≤ fewest_of fewest r
    no_larger r = by (nat_eq r router) refl
      where
        by : (b : Bool) → nat_eq r router ≡ b → fewest_of after r ≤ fewest_of fewest r
        by true same = subst (λ (x : ℕ). fewest_of after x ≤ fewest_of fewest x) (sym (eqb-true r router same)) (omega (arith, at_router, less))
        by false differ = omega (arith, at_other r differ)

    still_earlier : (k r : ℕ) → is_earlier fewest k r ≡ true → is_earlier after k r ≡ true
    still_earlier k r e = lt-ltb (fewest_of after r) k (omega (arith, no_larger r, ltb-true (fewest_of fewest r) k e))

    -- all are backed as before, and it is by what it was told
    pub still_backed : Backed fewest → ((k : ℕ) → k ≤ HOP_LIMIT → nat_le hops k ≡ true → step (is_earlier fewest k) router ≡ true) → Backed after
    still_backed backed told r k few e = is.wider (is_earlier fewest k) (is_earlier after k) (still_earlier k) r (by (nat_eq r router) refl)
      where
        by : (b : Bool) → nat_eq r router ≡ b → step (is_earlier fewest k) r ≡ true
        by true same =
            let here : r ≡ router = eqb-true r router same in
            subst (λ (x : ℕ). step (is_earlier fewest k) x ≡ true) (sym here)
            (told k few (ap (λ (n : ℕ). nat_le n k) (sym at_router) ∙ ap (λ (x : ℕ). nat_le (fewest_of after x) k) (sym here) ∙ e))
        by false differ = backed r k few (ap (λ (n : ℕ). nat_le n k) (sym (at_other r differ)) ∙ e)

    pub sum_smaller : sum_by (λ n. n) after < sum_by (λ n. n) fewest
    sum_smaller = omega (arith, sum_by-set (λ (n : ℕ). n) fewest router hops (suc HOP_LIMIT) within, less)

-- at first there is none that has to be backed
pub none_yet : (n router hops : ℕ) → hops ≤ HOP_LIMIT → nat_le (get_or (replicate n (suc HOP_LIMIT)) router (suc HOP_LIMIT)) hops ≡ true → false ≡ true
none_yet n router hops few e = absurd (omega (arith, never n router, few, leb-true (get_or (replicate n (suc HOP_LIMIT)) router (suc HOP_LIMIT)) hops e))

-- ---- ways, one after the other

module _ {X Y : Type 0} (p : Y → Bool) (f : X → Y) (xs : List X) (place : ℕ) (x : X) (read : x ≡ get_or xs place x) (within : place < length xs) (old new : Bool) where
  or_next : (a b c : Bool) → ((a || b) || c) ≡ (a || (b || c))
  or_next true b c = refl
  or_next false b c = refl

  and_next : (a b c : Bool) → ((a && b) && c) ≡ (a && (b && c))
  and_next true b c = refl
  and_next false b c = refl

  pub some_next : new ≡ (old || p (f x)) → (new || list_any p (drop (place + 1) (map f xs))) ≡ (old || list_any p (drop place (map f xs)))
  some_next told =
      ap (λ (b : Bool). b || list_any p (drop (place + 1) (map f xs))) told
      ∙ or_next old (p (f x)) (list_any p (drop (place + 1) (map f xs)))
      ∙ ap (λ (ys : List Y). old || list_any p ys) (sym (drop_view f xs place x read within))

  pub each_next : new ≡ (old && p (f x)) → (new && list_all p (drop (place + 1) (map f xs))) ≡ (old && list_all p (drop place (map f xs)))
  each_next told =
      ap (λ (b : Bool). b && list_all p (drop (place + 1) (map f xs))) told
      ∙ and_next old (p (f x)) (list_all p (drop (place + 1) (map f xs)))
      ∙ ap (λ (ys : List Y). old && list_all p ys) (sym (drop_view f xs place x read within))

pub or_none : (b : Bool) → (b || false) ≡ b
or_none true = refl
or_none false = refl

pub and_none : (b : Bool) → (b && true) ≡ b
and_none true = refl
and_none false = refl
