-- A function that depends on variables below some number alone has a least cut, or none: by its expansions, one variable after the
-- other.
use Rattle.std.proofs.Common.{◌≡◌, ◌⊎◌, ℕ, zero, suc, ◌+◌, ◌≤◌, Bool, true, false, List, [], ◌∷◌, ◌++◌, length, Option, Some, None, refl, sym, subst, ◌∙◌, inl, inr, length-append, arith}
use Rattle.std.proofs.lemmas.Bool.{cases_lt, cases_order, cases_Bool}
use Rattle.std.proofs.lemmas.List.{get_or_append_left, get_or_at}
use Rattle.nc_diagram.specs.Sets.{Members, has, fixing, Same}
use Rattle.nc_diagram.specs.Splits.{IsExpansion, IsLater}
use Rattle.nc_diagram.proofs.SetLemmas.{has-fixing-low, has-fixing-high}
use Rattle.nc_cut.specs.Cuts.{IsBelow, IsLeastCut, HasNoCut, is_free}
use Rattle.nc_cut.specs.Sizes.{HasSize, joined}
use Rattle.nc_cut.proofs.SizeLemmas.{size_joined, least_never, none_of_always}
use Rattle.nc_cut.proofs.LawLemmas.{none_same, least_same}

-- the function where the lowest variables are given
abbrev given : (Members → Bool) → List Bool → Members → Bool
given f lowest s = f (fixing lowest s)

-- with one variable more
abbrev more : List Bool → Bool → List Bool
more lowest b = lowest ++ b ∷ []

length-more : (lowest : List Bool) (b : Bool) → length (more lowest b) ≡ length lowest + 1
length-more lowest b = omega (arith, length-append lowest (b ∷ []))

-- fixing the next variable to what it is changes no member
fixed_alike : (lowest : List Bool) (b : Bool) (s : Members) → has s (length lowest) ≡ b → (w : ℕ) → has (fixing lowest s) w ≡ has (fixing (more lowest b) s) w
fixed_alike lowest b s is w = elim (cases_order w (length lowest)) [
  | inl e ↦
      subst (λ k. has (fixing lowest s) k ≡ has (fixing (more lowest b) s) k) (sym e)
      (has-fixing-high lowest s (length lowest) (omega arith) ∙ is
      ∙ sym (has-fixing-low (more lowest b) s (length lowest) b (omega (arith, length-more lowest b)) ∙ get_or_at lowest b [] b (length lowest) refl))
  | inr (inl lt) ↦
      has-fixing-low lowest s w b lt
      ∙ sym (has-fixing-low (more lowest b) s w b (omega (arith, length-more lowest b)) ∙ get_or_append_left lowest (b ∷ []) b w lt)
  | inr (inr lt) ↦ has-fixing-high lowest s w (omega arith) ∙ sym (has-fixing-high (more lowest b) s w (omega (arith, length-more lowest b)))
]

-- what is given hides the members below
given_alike : (lowest : List Bool) (s t : Members) → ((w : ℕ) → length lowest ≤ w → has s w ≡ has t w) → (w : ℕ) → has (fixing lowest s) w ≡ has (fixing lowest t) w
given_alike lowest s t same w = elim (cases_lt w (length lowest)) [
  | inl lt ↦ has-fixing-low lowest s w true lt ∙ sym (has-fixing-low lowest t w true lt)
  | inr le ↦ has-fixing-high lowest s w le ∙ same w le ∙ sym (has-fixing-high lowest t w le)
]

module _ (n : ℕ) (f : Members → Bool) (below : IsBelow n f) (free : List Bool) where
  given_later : (lowest : List Bool) (b : Bool) → IsLater (length lowest) (given f (more lowest b))
  given_later lowest b s t same =
      below (fixing (more lowest b) s) (fixing (more lowest b) t)
      (λ w lt. given_alike (more lowest b) s t (λ k le. same k (omega (arith, length-more lowest b))) w)

  expansion : (lowest : List Bool) → IsExpansion (given f lowest) (length lowest) (given f (more lowest false)) (given f (more lowest true))
  expansion lowest = record {
    missing = λ s is. below (fixing lowest s) (fixing (more lowest false) s) (λ w lt. fixed_alike lowest false s is w);
    member = λ s is. below (fixing lowest s) (fixing (more lowest true) s) (λ w lt. fixed_alike lowest true s is w);
    low_later = given_later lowest false;
    high_later = given_later lowest true;
  }

  -- with all variables given the function has one value
  all_given : (lowest : List Bool) → length lowest ≡ n → (s t : Members) → given f lowest s ≡ given f lowest t
  all_given lowest all s t =
      below (fixing lowest s) (fixing lowest t)
      (λ w lt. has-fixing-low lowest s w true (omega (arith, all)) ∙ sym (has-fixing-low lowest t w true (omega (arith, all))))

  sized : (k : ℕ) (lowest : List Bool) → length lowest + k ≡ n → (size : Option ℕ) × HasSize (given f lowest) free size
  sized zero lowest all =
      let some : Members = record { places = []; rest = true } in
      let same : (s : Members) → given f lowest s ≡ given f lowest some = λ s. all_given lowest (omega (arith, all)) s some in
      elim (cases_Bool (given f lowest some)) [
        | inl is ↦ (None, none_of_always (given f lowest) free (λ s. same s ∙ is))
        | inr is ↦ (Some 0, ([], least_never (given f lowest) free (λ s. same s ∙ is), refl))
      ]
  sized (suc k) lowest all =
      let low = sized k (more lowest false) (omega (arith, all, length-more lowest false)) in
      let high = sized k (more lowest true) (omega (arith, all, length-more lowest true)) in (
        joined (is_free free (length lowest)) low.0 high.0,
        size_joined (given f lowest) (given f (more lowest false)) (given f (more lowest true)) (length lowest) free (expansion lowest) low.0 high.0 low.1 high.1,
      )

  none_given : Same (given f []) f
  none_given s = below (fixing [] s) s (λ w lt. has-fixing-high [] s w (omega arith))

-- so it has a least cut, or none
module _ (n : ℕ) (f : Members → Bool) (below : IsBelow n f) (free : List Bool) where
  pub least_or_none : HasNoCut f free ⊎ ((cut : List ℕ) × IsLeastCut f free cut)
  least_or_none = on (sized n f below free n [] (omega arith)).0 (sized n f below free n [] (omega arith)).1
    where
      on : (size : Option ℕ) → HasSize (given f []) free size → HasNoCut f free ⊎ ((cut : List ℕ) × IsLeastCut f free cut)
      on None none = inl (none_same (given f []) f (none_given n f below free) free none)
      on (Some size) is = inr (is.0, least_same (given f []) f (none_given n f below free) free is.0 is.1)
