-- The first free variable that is listed, and where it is the least cut.
use Rattle.std.proofs.Common.{◌≡◌, ℕ, zero, suc, ◌+◌, ◌<◌, ◌≤◌, Bool, true, false, List, [], ◌∷◌, ◌++◌, length, take, get_or, slice_index, Option, sym, ap, subst, ◌∙◌, arith, append_assoc}
use Rattle.std.proofs.lemmas.Bool.{true≢false}
use Rattle.std.proofs.lemmas.List.{take_more}
use Rattle.std.proofs.lemmas.List.Elements.{All-nil, All-cons, All-head}
use Rattle.nc_diagram.specs.Sets.{Members, all_but}
use Rattle.nc_cut.specs.Cuts.{IsCut, IsBefore, IsLeastCut, IsFirstFree, is_free}

-- of one list the variables so far are listed
pub listed_more : (free : List Bool) (listed variables : List ℕ) (k d : ℕ) (first : Option ℕ) → k < length variables
    → IsFirstFree free ((listed ++ take k variables) ++ get_or variables k d ∷ []) first → IsFirstFree free (listed ++ take (k + 1) variables) first
listed_more free listed variables k d first lt is =
    subst (λ l. IsFirstFree free l first) (append_assoc listed (take k variables) (get_or variables k d ∷ []) ∙ ap (λ l. listed ++ l) (sym (take_more variables k d lt))) is

-- ---- a cut of one variable

module _ (f : Members → Bool) (free : List Bool) (v : ℕ) (all : f (all_but []) ≡ true) (allowed : is_free free v ≡ true) (never : f (all_but (v ∷ [])) ≡ false)
    (before : (w : ℕ) → w < v → is_free free w ≡ true → f (all_but (w ∷ [])) ≡ true) where
  alone : IsCut f free (v ∷ [])
  alone = record {
    ascends = λ k within. absurd (omega (arith, within));
    allowed = All-cons (λ w. is_free free w ≡ true) v [] allowed (All-nil (λ w. is_free free w ≡ true));
    never = never;
  }

  some : (other : List ℕ) → IsCut f free other → 1 ≤ length other
  some [] c = absurd (true≢false (sym all ∙ c.never))
  some (w ∷ ws) c = omega arith

  not_before : (other : List ℕ) → IsCut f free other → length other ≡ 1 → IsBefore other (v ∷ []) → ⊥
  not_before [] c one is = omega (arith, one)
  not_before (w ∷ x ∷ ws) c one is = omega (arith, one)
  not_before (w ∷ []) c one is = at is.place is.lower
    where
      at : (place : ℕ) → slice_index (w ∷ []) place < slice_index (v ∷ []) place → ⊥
      at zero lower = true≢false (sym (before w lower (All-head (λ u. is_free free u ≡ true) w [] c.allowed)) ∙ c.never)
      at (suc place) lower = omega (arith, lower)

  pub one_variable : IsLeastCut f free (v ∷ [])
  one_variable = record { is_cut = alone; fewest = some; first = not_before }
