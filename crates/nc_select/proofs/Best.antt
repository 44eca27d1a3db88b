-- The first candidate by preference is the one to which no other is preferred, the first of these.
use Rattle.std.proofs.Common.{◌≡◌, ℕ, zero, suc, ◌+◌, ◌<◌, Bool, true, false, List, [], ◌∷◌, length, get_or, refl, sym, ap, subst, ◌∙◌, arith, inl, inr}
use Rattle.std.specs.List.{IsFirstBest}
use Rattle.std.specs.List.Sorted.{IsStrictlySortedBy}
use Rattle.std.specs.Cmp.{IsStrictWeakOrder}
use Rattle.std.specs.declared.cmp.Ordering.{Ordering}
use Rattle.std.specs.declared.cmp.Ordering.TheVariants.{Less, Equal, Greater}
use Rattle.std.specs.Ordering.{ordering_then, nat_cmp, is_lt}
use Rattle.std.proofs.lemmas.Bool.Decides.{nat_tests}
use Rattle.std.proofs.lemmas.Cmp.{tied_back}
use Rattle.std.proofs.lemmas.List.Elements.{All-from_recursion}
use Rattle.std.proofs.lemmas.List.Sorted.{ranks_by}
use Rattle.std.proofs.lemmas.Map.Keys.{sorted_head}
use Rattle.nc_types.proofs.Members.{In, all_in}
use Rattle.nc_tables.specs.declared.bgp.Chosen.{Chosen}
use Rattle.nc_tables.specs.Choice.{preference_cmp, Ranked, ranked_from, by_preference}
use Rattle.nc_tables.proofs.Ordered.{in_by_order, in_its_order}
use Rattle.nc_select.proofs.Ranking.{preference_total, rank_cmp, place_cmp, sorted_by_preference}

abbrev pub is_preferred : Chosen → Chosen → Bool
is_preferred x y = is_lt (preference_cmp x y)

pub preferred_order : IsStrictWeakOrder is_preferred
preferred_order = ranks_by preference_total (λ (x : Chosen). x)

-- the candidate at a place, with its place
abbrev pub ranked : List Chosen → ℕ → Chosen → Ranked
ranked candidates k d = record { place = k; candidate = get_or candidates k d }

ranked_in : (n : ℕ) (candidates : List Chosen) (k : ℕ) (d : Chosen) → k < length candidates → In (record { place = n + k; candidate = get_or candidates k d }) (ranked_from n candidates)
ranked_in n [] k d lt = absurd (omega arith)
ranked_in n (c ∷ candidates) zero d lt =
    let e : n ≡ n + zero = omega arith in inl (ap (λ (m : ℕ). record { place = m; candidate = c }) e)
ranked_in n (c ∷ candidates) (suc k) d lt =
    let e : (n + 1) + k ≡ n + suc k = omega arith in
    inr (subst (λ (m : ℕ). In (record { place = m; candidate = get_or candidates k d }) (ranked_from (n + 1) candidates)) e (ranked_in (n + 1) candidates k d (omega arith)))

-- where a candidate with a place stands
abbrev StandsAt : ℕ → List Chosen → Ranked → Type 0
StandsAt n candidates x = (k : ℕ) × (k < length candidates) × (x.place ≡ n + k) × ((d : Chosen) → x.candidate ≡ get_or candidates k d)

stands_at : (n : ℕ) (candidates : List Chosen) (x : Ranked) → In x (ranked_from n candidates) → StandsAt n candidates x
stands_at n [] x i = absurd i
stands_at n (c ∷ candidates) x (inl same) =
    let e : n ≡ n + zero = omega arith in (zero, (omega arith), sym (ap (λ (y : Ranked). y.place) same) ∙ e, (λ d. sym (ap (λ (y : Ranked). y.candidate) same)))
stands_at n (c ∷ candidates) x (inr i) =
    let r = stands_at (n + 1) candidates x i in
    let lt : r.0 < length candidates = r.1 in
    let e : (n + 1) + r.0 ≡ n + suc r.0 = omega arith in (suc r.0, (omega arith), r.2 ∙ e, r.3)

lower : (m n : ℕ) → nat_cmp m n ≡ Less → m < n
lower m n e = grind (arith, nat_tests)

module _ (candidates : List Chosen) (best : ℕ) (d : Chosen) (is : IsFirstBest is_preferred candidates (length candidates) best) where
  none_at : (x : Ranked) → StandsAt 0 candidates x → place_cmp x (ranked candidates best d) ≡ Less → ⊥
  none_at x at e =
      let same_place : 0 + at.0 ≡ at.0 = omega arith in
      by_order (rank_cmp x (ranked candidates best d)) refl (subst (λ (m : ℕ). ordering_then (rank_cmp x (ranked candidates best d)) (nat_cmp m best) ≡ Less) (at.2 ∙ same_place) e)
    where
      by_order : (o : Ordering) → rank_cmp x (ranked candidates best d) ≡ o → ordering_then o (nat_cmp at.0 best) ≡ Less → ⊥
      by_order Less f g =
          let no : is_lt (preference_cmp (get_or candidates at.0 d) (get_or candidates best d)) ≡ false = is.1 at.0 d at.1 in
          let yes : is_lt (preference_cmp (get_or candidates at.0 d) (get_or candidates best d)) ≡ true = ap is_lt (ap (λ (c : Chosen). preference_cmp c (get_or candidates best d)) (sym (at.3 d)) ∙ f) in absurd cc
      by_order Equal f g =
          let yes : is_lt (preference_cmp (get_or candidates best d) (get_or candidates at.0 d)) ≡ true = is.2 at.0 d (lower at.0 best g) in
          let tie : preference_cmp (get_or candidates best d) (get_or candidates at.0 d) ≡ Equal = tied_back preference_total _ _ (ap (λ (c : Chosen). preference_cmp c (get_or candidates best d)) (sym (at.3 d)) ∙ f) in
          let no : is_lt (preference_cmp (get_or candidates best d) (get_or candidates at.0 d)) ≡ false = ap is_lt tie in absurd cc
      by_order Greater f g = absurd cc

  none_before : (x : Ranked) → In x (ranked_from 0 candidates) → place_cmp x (ranked candidates best d) ≡ Less → ⊥
  none_before x i e = none_at x (stands_at 0 candidates x i) e

  head_is : (x : Ranked) (xs : List Ranked) → by_preference candidates ≡ x ∷ xs → IsStrictlySortedBy place_cmp (x ∷ xs) → In (ranked candidates best d) (x ∷ xs) → x ≡ ranked candidates best d
  head_is x xs e sorted (inl same) = same
  head_is x xs e sorted (inr i) =
      absurd (none_before x (in_by_order rank_cmp (ranked_from 0 candidates) x (subst (In x) (sym e) (inl refl))) (all_in (λ y. place_cmp x y ≡ Less) xs (All-from_recursion (λ y. place_cmp x y ≡ Less) xs (sorted_head place_cmp x xs sorted)) (ranked candidates best d) i))

  best_among : In (ranked candidates best d) (by_preference candidates)
  best_among =
      let e : 0 + best ≡ best = omega arith in
      in_its_order rank_cmp (ranked_from 0 candidates) (ranked candidates best d) (subst (λ (m : ℕ). In (record { place = m; candidate = get_or candidates best d }) (ranked_from 0 candidates)) e (ranked_in 0 candidates best d is.0))

  -- the best comes first
  pub best_first : (others : List Ranked) × (by_preference candidates ≡ ranked candidates best d ∷ others)
  best_first = by_rows (by_preference candidates) refl
    where
      by_rows : (xs : List Ranked) → by_preference candidates ≡ xs → (others : List Ranked) × (by_preference candidates ≡ ranked candidates best d ∷ others)
      by_rows [] e = absurd (subst (In (ranked candidates best d)) e best_among)
      by_rows (x ∷ xs) e =
          (xs, e ∙ ap (λ (y : Ranked). y ∷ xs) (head_is x xs e (subst (IsStrictlySortedBy place_cmp) e (sorted_by_preference candidates)) (subst (In (ranked candidates best d)) e best_among)))
