-- There is one least cut, there is a cut where no variable is kept, and functions that are the same have the same cuts.
use Rattle.std.proofs.Common.{◌≡◌, ℕ, zero, suc, ◌+◌, ◌<◌, Bool, true, false, List, [], ◌∷◌, length, slice_index, All, Contains, Option, Some, None, MatchOption, refl, sym, ap, subst, ◌∙◌, inl, inr, ◌⊎◌, arith}
use Rattle.std.proofs.lemmas.Bool.{cases_order}
use Rattle.std.proofs.lemmas.List.{get_or_past}
use Rattle.std.proofs.lemmas.List.Elements.{All-from_get_or}
use Rattle.std.proofs.lemmas.List.FromFn.{length-range_with_len, get_or-range_with_len}
use Rattle.std.specs.List.{range_with_len}
use Rattle.nc_diagram.specs.Sets.{Members, Same, has, all_but, among}
use Rattle.nc_diagram.proofs.AllButLemmas.{all_but_lacks}
use Rattle.nc_diagram.proofs.CounterLemmas.{Ascends, IsStrictlyIncreasing-ascends}
use Rattle.nc_cut.specs.Cuts.{IsCut, IsBefore, IsLeastCut, HasNoCut, IsBelow, is_free}

-- of two lists as long as one another one is before the other, or they are one
before_with : (x : ℕ) (one other : List ℕ) → IsBefore one other → IsBefore (x ∷ one) (x ∷ other)
before_with x one other b = record { place = suc b.place; same_before = same; lower = b.lower }
  where
    same : (k : ℕ) → k < suc b.place → slice_index (x ∷ one) k ≡ slice_index (x ∷ other) k
    same zero lt = refl
    same (suc k) lt = b.same_before k (omega arith)

before_first : (x y : ℕ) (one other : List ℕ) → x < y → IsBefore (x ∷ one) (y ∷ other)
before_first x y one other lt = record { place = 0; same_before = λ k none. absurd (omega arith); lower = lt }

pub ordered : (one other : List ℕ) → length one ≡ length other → (one ≡ other) ⊎ (IsBefore one other ⊎ IsBefore other one)
ordered [] [] e = inl refl
ordered [] (y ∷ other) e = absurd (omega arith)
ordered (x ∷ one) [] e = absurd (omega arith)
ordered (x ∷ one) (y ∷ other) e =
    elim (cases_order x y) [
      | inl same ↦
          (let behind : (one ≡ other) ⊎ (IsBefore one other ⊎ IsBefore other one) = ordered one other (omega arith) in
          subst (λ z. (x ∷ one ≡ z ∷ other) ⊎ (IsBefore (x ∷ one) (z ∷ other) ⊎ IsBefore (z ∷ other) (x ∷ one))) same
          (elim behind [
            | inl alike ↦ inl (ap (λ zs. x ∷ zs) alike)
            | inr (inl b) ↦ inr (inl (before_with x one other b))
            | inr (inr b) ↦ inr (inr (before_with x other one b))
          ]))
      | inr (inl lt) ↦ inr (inl (before_first x y one other lt))
      | inr (inr lt) ↦ inr (inr (before_first y x other one lt))
    ]

pub one_least : (f : Members → Bool) (free : List Bool) (one other : List ℕ) → IsLeastCut f free one → IsLeastCut f free other → one ≡ other
one_least f free one other a b =
    let lengths : length one ≡ length other = omega (arith, a.fewest other b.is_cut, b.fewest one a.is_cut) in
    elim (ordered one other lengths) [
      | inl same ↦ same
      | inr (inl before) ↦ absurd (b.first one a.is_cut lengths before)
      | inr (inr before) ↦ absurd (a.first other b.is_cut (sym lengths) before)
    ]

-- the variables from one on ascend
range-ascends : (from n : ℕ) → Ascends from (range_with_len from n)
unfolding Ascends
range-ascends from zero = tt
range-ascends from (suc n) = (omega arith, range-ascends (from + 1) n)

-- where no variable is kept, all of them are a cut
pub some_cut : (f : Members → Bool) (free : List Bool) → IsBelow (length free) f → All (λ b. b ≡ true) free → f (among []) ≡ false → HasNoCut f free → ⊥
some_cut f free below all never none =
    let n = length free in
    let cut = range_with_len 0 n in
    let up = IsStrictlyIncreasing-ascends 0 cut (range-ascends 0 n) in
    let lacks : (v : ℕ) → v < n → has (all_but cut) v ≡ has (among []) v =
    λ v lt.
    let there : Contains cut v = (v, omega (arith, length-range_with_len 0 n), get_or-range_with_len 0 n v v lt ∙ (omega arith)) in
    (all_but_lacks cut v up).1 there ∙ sym (get_or_past [] v false (omega arith)) in
    none cut (record {
      ascends = up;
      allowed = All-from_get_or (λ v. is_free free v ≡ true) cut 0
          (λ k within. (let lt : k < n = omega (arith, length-range_with_len 0 n) in ap (is_free free) (get_or-range_with_len 0 n k 0 lt ∙ (omega arith)) ∙ all k false lt));
      never = below (all_but cut) (among []) lacks ∙ never;
    })

module _ (f g : Members → Bool) (same : Same f g) (free : List Bool) where
  cut_same : (cut : List ℕ) → IsCut f free cut → IsCut g free cut
  cut_same cut c = record { ascends = c.ascends; allowed = c.allowed; never = sym (same (all_but cut)) ∙ c.never }

  cut_back : (cut : List ℕ) → IsCut g free cut → IsCut f free cut
  cut_back cut c = record { ascends = c.ascends; allowed = c.allowed; never = same (all_but cut) ∙ c.never }

  pub none_same : HasNoCut f free → HasNoCut g free
  none_same none cut c = none cut (cut_back cut c)

  pub least_same : (cut : List ℕ) → IsLeastCut f free cut → IsLeastCut g free cut
  least_same cut is = record {
    is_cut = cut_same cut is.is_cut;
    fewest = λ other c. is.fewest other (cut_back other c);
    first = λ other c. is.first other (cut_back other c);
  }

  -- the answer of `least_cut`
  pub answer_same : {X : Type 0} (items : X → List ℕ) (o : Option X) → MatchOption o (HasNoCut f free) (λ x. IsLeastCut f free (items x)) → MatchOption o (HasNoCut g free) (λ x. IsLeastCut g free (items x))
  answer_same items None none = none_same none
  answer_same items (Some x) least = least_same (items x) least
