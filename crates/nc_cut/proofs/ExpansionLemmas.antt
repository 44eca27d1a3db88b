-- The least cut of a function by those of its two parts: at the variable of the expansion a cut begins with it and goes on with a
-- cut of the low part, or is a cut of the high part; what begins with a lower variable is longer than needed.
use Rattle.std.proofs.Common.{◌≡◌, ℕ, ◌+◌, ◌<◌, ◌≤◌, Bool, true, false, List, [], ◌∷◌, length, sym, subst, ◌∙◌, inl, inr, arith}
use Rattle.std.proofs.lemmas.Bool.{cases_lt, cases_order, cases_Bool}
use Rattle.std.proofs.lemmas.List.Elements.{All-cons, All-head, All-tail}
use Rattle.nc_diagram.specs.Sets.{Members, has, all_but}
use Rattle.nc_diagram.specs.Splits.{IsExpansion, IsLater}
use Rattle.nc_diagram.proofs.CounterLemmas.{Ascends, IsStrictlyIncreasing-ascends}
use Rattle.nc_cut.specs.Cuts.{IsCut, IsBefore, IsLeastCut, HasNoCut, is_free}
use Rattle.nc_cut.proofs.ListLemmas.{ascends_first, ascends_from, ascends_behind, increases_with, member_before, first_missing, agrees_behind, before_behind, later_not_before}

-- a cut without its first variable, where the function is false there too
pub cut_behind : (g : Members → Bool) (free : List Bool) (j : ℕ) (js : List ℕ) → IsCut g free (j ∷ js) → g (all_but js) ≡ false → IsCut g free js
cut_behind g free j js c never = record {
  ascends = IsStrictlyIncreasing-ascends (j + 1) js (ascends_behind j js c.ascends);
  allowed = All-tail (λ v. is_free free v ≡ true) j js c.allowed;
  never = never;
}

-- a least cut of a function that depends on later variables alone has no others
pub later_first : (g : Members → Bool) (free : List Bool) (v : ℕ) → IsLater v g → (ks : List ℕ) → IsLeastCut g free ks → Ascends (v + 1) ks
unfolding Ascends
later_first g free v later [] least = tt
later_first g free v later (k ∷ ks) least =
    elim (cases_lt v k) [
      | inl lt ↦ ascends_from (v + 1) k ks (omega arith) least.is_cut.ascends
      | inr le ↦
          (let same : g (all_but ks) ≡ g (all_but (k ∷ ks)) =
          later (all_but ks) (all_but (k ∷ ks)) (λ w lt. agrees_behind k ks least.is_cut.ascends w (λ e. omega arith)) in
          let fewer = least.fewest ks (cut_behind g free k ks least.is_cut (same ∙ least.is_cut.never)) in
          absurd (omega arith))
    ]

module _ (f low high : Members → Bool) (v : ℕ) (free : List Bool) (expansion : IsExpansion f v low high) where
  -- the function depends on no variable before v
  agrees : (s t : Members) → ((w : ℕ) → v ≤ w → has s w ≡ has t w) → f s ≡ f t
  agrees s t same =
      let here : has s v ≡ has t v = same v (omega arith) in
      elim (cases_Bool (has s v)) [
        | inl there ↦ expansion.member s there ∙ expansion.high_later s t (λ w lt. same w (omega arith)) ∙ sym (expansion.member t (sym here ∙ there))
        | inr lacks ↦ expansion.missing s lacks ∙ expansion.low_later s t (λ w lt. same w (omega arith)) ∙ sym (expansion.missing t (sym here ∙ lacks))
      ]

  -- a cut that begins before v, without its first variable
  drop_before : (j : ℕ) (js : List ℕ) → j < v → IsCut f free (j ∷ js) → IsCut f free js
  drop_before j js lt c =
      cut_behind f free j js c (agrees (all_but js) (all_but (j ∷ js)) (λ w le. agrees_behind j js c.ascends w (λ e. omega arith)) ∙ c.never)

  -- a cut that begins with v goes on with one of the low part
  cut_low : (js : List ℕ) → IsCut f free (v ∷ js) → IsCut low free js
  cut_low js c = record {
    ascends = IsStrictlyIncreasing-ascends (v + 1) js (ascends_behind v js c.ascends);
    allowed = All-tail (λ w. is_free free w ≡ true) v js c.allowed;
    never = expansion.low_later (all_but js) (all_but (v ∷ js)) (λ w lt. agrees_behind v js c.ascends w (λ e. omega arith))
        ∙ sym (expansion.missing (all_but (v ∷ js)) (first_missing v js c.ascends)) ∙ c.never;
  }

  -- a cut of later variables alone is one of the high part
  cut_high : (js : List ℕ) → Ascends (v + 1) js → IsCut f free js → IsCut high free js
  cut_high js up c = record {
    ascends = c.ascends;
    allowed = c.allowed;
    never = sym (expansion.member (all_but js) (member_before v js up)) ∙ c.never;
  }

  -- and back
  low_cut : (js : List ℕ) → Ascends (v + 1) js → is_free free v ≡ true → IsCut low free js → IsCut f free (v ∷ js)
  low_cut js up free_v c =
      let whole = increases_with v js up in
      record {
        ascends = whole;
        allowed = All-cons (λ w. is_free free w ≡ true) v js free_v c.allowed;
        never = expansion.missing (all_but (v ∷ js)) (first_missing v js whole)
            ∙ sym (expansion.low_later (all_but js) (all_but (v ∷ js)) (λ w lt. agrees_behind v js whole w (λ e. omega arith))) ∙ c.never;
      }

  high_cut : (js : List ℕ) → Ascends (v + 1) js → IsCut high free js → IsCut f free js
  high_cut js up c = record {
    ascends = c.ascends;
    allowed = c.allowed;
    never = expansion.member (all_but js) (member_before v js up) ∙ c.never;
  }

  -- what holds of each cut, by its first variable
  by_first : (P : List ℕ → Type 0)
      → ((j : ℕ) (js : List ℕ) → IsCut f free js → P js → P (j ∷ js))
      → ((js : List ℕ) → is_free free v ≡ true → IsCut low free js → P (v ∷ js))
      → ((js : List ℕ) → Ascends (v + 1) js → IsCut high free js → P js)
      → (js : List ℕ) → IsCut f free js → P js
  unfolding Ascends
  by_first P before at_low at_high [] c = at_high [] tt (cut_high [] tt c)
  by_first P before at_low at_high (j ∷ js) c =
      elim (cases_order j v) [
        | inl e ↦
            (let here : IsCut f free (v ∷ js) = subst (λ k. IsCut f free (k ∷ js)) e c in
            subst (λ k. P (k ∷ js)) (sym e) (at_low js (All-head (λ w. is_free free w ≡ true) v js here.allowed) (cut_low js here)))
        | inr (inl lt) ↦ (let less = drop_before j js lt c in before j js less (by_first P before at_low at_high js less))
        | inr (inr lt) ↦ (let up = ascends_from (v + 1) j js (omega arith) c.ascends in at_high (j ∷ js) up (cut_high (j ∷ js) up c))
      ]

  -- where neither part has a cut, the low one where v is free, there is none
  pub none_of_both : (is_free free v ≡ true → HasNoCut low free) → HasNoCut high free → HasNoCut f free
  none_of_both no_low no_high = by_first (λ _. ⊥) (λ j js c none. none) (λ js free_v c. no_low free_v js c) (λ js up c. no_high js c)

  -- v and the least cut of the low part, where each cut of the high part has more variables than that
  pub least_low : (ks : List ℕ) → is_free free v ≡ true → IsLeastCut low free ks → ((js : List ℕ) → IsCut high free js → length ks < length js) → IsLeastCut f free (v ∷ ks)
  least_low ks free_v least more = record {
    is_cut = low_cut ks (later_first low free v expansion.low_later ks least) free_v least.is_cut;
    fewest = fewest;
    first = λ js c. by_first (λ js. length js ≡ length (v ∷ ks) → IsBefore js (v ∷ ks) → ⊥)
        (λ j js less none same before. (let le = fewest js less in omega arith))
        (λ js free_w d same before. least.first js d (omega arith) (before_behind v js ks before))
        (λ js up d same before. later js up d same before)
        js c;
  }
    where
      fewest : (js : List ℕ) → IsCut f free js → length (v ∷ ks) ≤ length js
      fewest = by_first (λ js. length (v ∷ ks) ≤ length js) (λ j js less le. omega arith) (λ js free_w d. (let le = least.fewest js d in omega arith)) (λ js up d. (let lt = more js d in omega arith))

      later : (js : List ℕ) → Ascends (v + 1) js → IsCut high free js → length js ≡ length (v ∷ ks) → IsBefore js (v ∷ ks) → ⊥
      later [] up d same before = omega arith
      later (j ∷ js) up d same before = (let lt = ascends_first (v + 1) j js up in later_not_before v j ks js (omega arith) before)

  -- the least cut of the high part, where no cut of the low part has fewer variables than that, if v is free
  pub least_high : (ks : List ℕ) → IsLeastCut high free ks → (is_free free v ≡ true → (js : List ℕ) → IsCut low free js → length ks ≤ length js) → IsLeastCut f free ks
  least_high ks least no_fewer = record {
    is_cut = high_cut ks (later_first high free v expansion.high_later ks least) least.is_cut;
    fewest = fewest;
    first = λ js c. by_first (λ js. length js ≡ length ks → IsBefore js ks → ⊥)
        (λ j js less none same before. (let le = fewest js less in omega arith))
        (λ js free_w d same before. (let le = no_fewer free_w js d in omega arith))
        (λ js up d same before. least.first js d same before)
        js c;
  }
    where
      fewest : (js : List ℕ) → IsCut f free js → length ks ≤ length js
      fewest = by_first (λ js. length ks ≤ length js) (λ j js less le. omega arith) (λ js free_w d. (let le = no_fewer free_w js d in omega arith)) (λ js up d. least.fewest js d)
