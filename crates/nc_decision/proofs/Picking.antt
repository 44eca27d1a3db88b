-- Items that are picked from their places, one behind the other.
use Rattle.std.proofs.Common.{◌≡◌, ℕ, ◌+◌, ◌<◌, ◌++◌, List, [], ◌∷◌, drop, length, get_or, Option, Some, None, sym, ap, ◌∙◌, append_assoc}
use Rattle.std.specs.List.{cons_option, filter_map, slice_get}
use Rattle.std.proofs.lemmas.List.{drop_more}

module _ (places : List ℕ) (i : ℕ) (lt : i < length places) {X : Type 0} (items picked : List X) (total : List X) (so_far : picked ++ filter_map (slice_get items) (drop i places) ≡ total) where
  rest_of : (o : Option X) → slice_get items (get_or places i 0) ≡ o → picked ++ cons_option o (filter_map (slice_get items) (drop (i + 1) places)) ≡ total
  rest_of o e =
      ap (λ (p : Option X). picked ++ cons_option p (filter_map (slice_get items) (drop (i + 1) places))) (sym e)
      ∙ ap (λ (l : List ℕ). picked ++ filter_map (slice_get items) l) (sym (drop_more places i 0 lt)) ∙ so_far

  pub picks_one : (x : X) (pushed : List X) → slice_get items (get_or places i 0) ≡ Some x → pushed ≡ picked ++ x ∷ [] → pushed ++ filter_map (slice_get items) (drop (i + 1) places) ≡ total
  picks_one x pushed at push =
      let rest = filter_map (slice_get items) (drop (i + 1) places) in
      ap (λ (l : List X). l ++ rest) push ∙ append_assoc picked (x ∷ []) rest ∙ rest_of (Some x) at

  pub picks_none : slice_get items (get_or places i 0) ≡ None → picked ++ filter_map (slice_get items) (drop (i + 1) places) ≡ total
  picks_none at = rest_of None at
