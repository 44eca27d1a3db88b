-- The rows of a router's BGP table: what is chosen of a prefix.
use Rattle.std.proofs.Common.{◌≡◌, ℕ, zero, suc, ◌∷◌, ◌+◌, ◌<◌, Bool, true, false, List, [], length, map, get_or, Some, None, refl, sym, ap, ◌∙◌, arith, inl, inr}
use Rattle.std.specs.List.{find}
use Rattle.std.specs.List.Sorted.{IsPartitionPoint, IsSortedByKey}
use Rattle.std.specs.Option.{option_map}
use Rattle.std.specs.Ordering.{is_lt, is_eq, ordering_reverse}
use Rattle.std.specs.declared.cmp.Ordering.TheVariants.{Less, Greater}
use Rattle.std.proofs.lemmas.Bool.{cases_lt}
use Rattle.std.proofs.lemmas.List.{length-map}
use Rattle.nc_types.specs.Cidr.{Cidr}
use Rattle.nc_tables.specs.declared.bgp.BgpRow.{BgpRow}
use Rattle.nc_tables.specs.Base.{prefix_cmp, same_prefix}
use Rattle.nc_tables.specs.Rounds.{BgpRowView, bgp_row_view, AreBgpRows}
use Rattle.nc_tables.proofs.SideBySide.{prefix_total, same_by_cmp}
use Rattle.nc_tables.proofs.ByPrefix.{same_itself, less_differs}
use Rattle.nc_tables.proofs.Finding.{find_map, found_at, found_none}

not_less : (p q : Cidr) → prefix_cmp p q ≡ Less → is_lt (prefix_cmp q p) ≡ false
not_less p q e = ap is_lt (prefix_total.antisymm q p ∙ ap ordering_reverse e)

pub view_at : (rows : List BgpRow) (i : ℕ) (d : BgpRow) → get_or (map bgp_row_view rows) i (bgp_row_view d) ≡ bgp_row_view (get_or rows i d)
view_at [] i d = refl
view_at (row ∷ rows) zero d = refl
view_at (row ∷ rows) (suc i) d = view_at rows i d

module _ (rows : List BgpRow) (are : AreBgpRows (map bgp_row_view rows)) where
  pub by_prefix : IsSortedByKey (λ (row : BgpRow). row.prefix) prefix_cmp rows
  by_prefix k d lo hi =
      let count : length (map bgp_row_view rows) ≡ length rows = length-map rows bgp_row_view in
      let at : (i : ℕ) → (get_or (map bgp_row_view rows) i (bgp_row_view d)).prefix ≡ (get_or rows i d).prefix = (λ i. ap (λ (row : BgpRowView). row.prefix) (view_at rows i d)) in
      let up : prefix_cmp (get_or (map bgp_row_view rows) k (bgp_row_view d)).prefix (get_or (map bgp_row_view rows) (k + 1) (bgp_row_view d)).prefix ≡ Less = are.ordered k (k + 1) (bgp_row_view d) (omega arith) (omega arith) in
      not_less (get_or rows k d).prefix (get_or rows (k + 1) d).prefix (rw (← at k, ← at (k + 1)) up)

module _ (prefix : Cidr) where
  abbrev pub has : BgpRowView → Bool
  has row = same_prefix row.prefix prefix

  -- the row at a place, if it has the prefix
  pub found_row : (rows : List BgpRow) (place : ℕ) (d : BgpRow) → AreBgpRows (map bgp_row_view rows) → place < length rows → (get_or rows place d).prefix ≡ prefix
      → find has (map bgp_row_view rows) ≡ Some (bgp_row_view (get_or rows place d))
  found_row rows place d are lt is = find_map bgp_row_view has rows ∙ ap (option_map bgp_row_view) (found_at (λ (row : BgpRow). has (bgp_row_view row)) rows place d lt before here)
    where
      here : same_prefix (get_or rows place d).prefix prefix ≡ true
      here = ap (λ (q : Cidr). same_prefix q prefix) is ∙ same_itself prefix

      at : (i : ℕ) → (get_or (map bgp_row_view rows) i (bgp_row_view d)).prefix ≡ (get_or rows i d).prefix
      at i = ap (λ (row : BgpRowView). row.prefix) (view_at rows i d)

      before : (k : ℕ) → k < place → same_prefix (get_or rows k d).prefix prefix ≡ false
      before k less =
          let count : length (map bgp_row_view rows) ≡ length rows = length-map rows bgp_row_view in
          let up : prefix_cmp (get_or (map bgp_row_view rows) k (bgp_row_view d)).prefix (get_or (map bgp_row_view rows) place (bgp_row_view d)).prefix ≡ Less = are.ordered k place (bgp_row_view d) less (omega (arith, count, lt)) in
          less_differs (get_or rows k d).prefix prefix
          (ap (λ (q : Cidr). prefix_cmp q prefix) (sym (at k)) ∙ ap (prefix_cmp (get_or (map bgp_row_view rows) k (bgp_row_view d)).prefix) (sym (at place ∙ is)) ∙ up)

  -- no row, if those before a place are below it and those behind above
  pub no_row : (rows : List BgpRow) (place : ℕ) → IsPartitionPoint (λ (row : BgpRow). prefix_cmp row.prefix prefix ≡ Less) (λ (row : BgpRow). prefix_cmp row.prefix prefix ≡ Greater) rows place
      → find has (map bgp_row_view rows) ≡ None
  no_row rows place parted =
      find_map bgp_row_view has rows
      ∙ ap (option_map bgp_row_view) (found_none (λ (row : BgpRow). has (bgp_row_view row)) rows (λ k d lt. same_by_cmp (get_or rows k d).prefix prefix ∙ elim (cases_lt k place) [
        | inl before ↦ ap is_eq (parted.0 k d (omega arith) before)
        | inr after ↦ ap is_eq (parted.1 k d after lt)
      ]))
