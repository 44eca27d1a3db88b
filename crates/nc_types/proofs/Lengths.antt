-- The length of a mask is that of the one mask which equals it.
use Rattle.std.proofs.Common.{◌≡◌, ◌≢◌, ℕ, zero, suc, ◌<◌, ◌≤◌, ◌-◌, ◌==◌, Option, Some, None, refl, sym, ◌∙◌, ap, subst, arith, inl, inr}
use Rattle.std.specs.Prelude.{IfSome}
use Rattle.std.proofs.lemmas.Bool.{cases_eq, cond_both}
use Rattle.std.proofs.lemmas.Bool.Decides.{nat_tests}
use Rattle.nc_types.specs.Masks.{mask_of, mask_len_below}

found : (n mask : ℕ) → mask ≡ mask_of n → mask_len_below (suc n) mask ≡ Some n
unfolding mask_len_below
found n mask same = grind (arith, nat_tests)

missed : (n mask : ℕ) → mask ≢ mask_of n → mask_len_below (suc n) mask ≡ mask_len_below n mask
unfolding mask_len_below
missed n mask other = grind (arith, nat_tests)

-- one length less, where the mask is not that of the length
pub passes : (n mask : ℕ) → 0 < n → mask ≢ mask_of (n - 1) → mask_len_below n mask ≡ mask_len_below (n - 1) mask
passes zero mask some other = absurd (omega arith)
passes (suc n) mask some other =
    let back : suc n - 1 ≡ n = omega arith in
    missed n mask (subst (λ (k : ℕ). mask ≢ mask_of k) back other) ∙ ap (λ (k : ℕ). mask_len_below k mask) (sym back)

-- the length, where the mask is its mask
pub stops : (n mask : ℕ) → 0 < n → mask ≡ mask_of (n - 1) → mask_len_below n mask ≡ Some (n - 1)
stops zero mask some same = absurd (omega arith)
stops (suc n) mask some same =
    let back : suc n - 1 ≡ n = omega arith in
    found n mask (subst (λ (k : ℕ). mask ≡ mask_of k) back same) ∙ ap (λ (k : ℕ). Some k) (sym back)

-- nothing is below 0
pub nothing_below : (n mask : ℕ) → n ≤ 0 → mask_len_below n mask ≡ None
unfolding mask_len_below
nothing_below zero mask small = refl
nothing_below (suc n) mask small = absurd (omega arith)

-- what has a length has one below the bound
pub some_below : (n mask : ℕ) → IfSome (mask_len_below n mask) (λ len. len < n)
unfolding mask_len_below
some_below zero mask = tt
some_below (suc n) mask =
    cond_both (mask == mask_of n) (Some n) (mask_len_below n mask) (λ o. IfSome o (λ len. len < suc n)) (λ _. omega arith) (λ _. wider (mask_len_below n mask) (some_below n mask))
  where
    wider : (o : Option ℕ) → IfSome o (λ len. len < n) → IfSome o (λ len. len < suc n)
    wider None small = tt
    wider (Some len) small = omega (arith, small)

-- what has no length equals no mask
pub none_below : (n mask : ℕ) → mask_len_below n mask ≡ None → (len : ℕ) → len < n → mask ≢ mask_of len
none_below zero mask none len below = absurd (omega arith)
none_below (suc n) mask none len below =
    elim (cases_eq mask (mask_of n)) [
      | inl same ↦ let e : None ≡ Some n = sym none ∙ found n mask same in absurd cc
      | inr other ↦ elim (cases_eq len n) [
        | inl here ↦ subst (λ (k : ℕ). mask ≢ mask_of k) (sym here) other
        | inr there ↦ none_below n mask (sym (missed n mask other) ∙ none) len (omega arith)
      ]
    ]
