-- The place of a prefix among the rows of a router, which stand in order of prefix.
use Rattle.std.proofs.Common.{◌≡◌, ℕ, zero, suc, ◌<◌, ◌≤◌, ◌⊎◌, true, false, length, List, map, get_or, refl, ap, subst, arith, inl, inr}
use Rattle.std.specs.List.Sorted.{IsPartitionPoint}
use Rattle.std.specs.Ordering.{is_lt}
use Rattle.std.specs.declared.cmp.Ordering.{Ordering}
use Rattle.std.specs.declared.cmp.Ordering.TheVariants.{Less, Equal, Greater}
use Rattle.std.proofs.lemmas.Bool.{cases_lt}
use Rattle.std.proofs.lemmas.List.{length-map}
use Rattle.nc_types.specs.Cidr.{Cidr}
use Rattle.nc_tables.specs.declared.bgp.BgpRow.{BgpRow}
use Rattle.nc_tables.specs.Base.{prefix_cmp}
use Rattle.nc_tables.specs.Rounds.{BgpRowView, bgp_row_view, AreBgpRows}
use Rattle.nc_tables.proofs.BgpRows.{view_at}
use Rattle.nc_tables.proofs.InOrder.{back, equal_is}
use Rattle.nc_tables.proofs.SideBySide.{prefix_total}

less_is : (o : Ordering) → is_lt o ≡ true → o ≡ Less
less_is Less e = refl
less_is Equal e = absurd cc
less_is Greater e = absurd cc

-- what neither is below nor the same
greater_is : (o : Ordering) → is_lt o ≡ false → (o ≡ Equal → ⊥) → o ≡ Greater
greater_is Less e other = absurd cc
greater_is Equal e other = absurd (other refl)
greater_is Greater e other = refl

module _ (rows : List BgpRow) (are : AreBgpRows (map bgp_row_view rows)) where
  rises : (i j : ℕ) (d : BgpRow) → i < j → j < length rows → prefix_cmp (get_or rows i d).prefix (get_or rows j d).prefix ≡ Less
  rises i j d lo hi =
      let count : length (map bgp_row_view rows) ≡ length rows = length-map rows bgp_row_view in
      let at : (k : ℕ) → (get_or (map bgp_row_view rows) k (bgp_row_view d)).prefix ≡ (get_or rows k d).prefix = (λ k. ap (λ (row : BgpRowView). row.prefix) (view_at rows k d)) in
      let up : prefix_cmp (get_or (map bgp_row_view rows) i (bgp_row_view d)).prefix (get_or (map bgp_row_view rows) j (bgp_row_view d)).prefix ≡ Less = are.ordered i j (bgp_row_view d) lo (omega arith) in
      rw (← at i, ← at j) up

  -- where the first row that isn't below a prefix has another one, it and all behind it are above
  pub parted : (p : Cidr) (place : ℕ) → IsPartitionPoint (λ (row : BgpRow). is_lt (prefix_cmp row.prefix p) ≡ true) (λ (row : BgpRow). is_lt (prefix_cmp row.prefix p) ≡ false) rows place
      → ((d : BgpRow) → place < length rows → prefix_cmp (get_or rows place d).prefix p ≡ Equal → ⊥)
      → IsPartitionPoint (λ (row : BgpRow). prefix_cmp row.prefix p ≡ Less) (λ (row : BgpRow). prefix_cmp row.prefix p ≡ Greater) rows place
  parted p place parts other = ((λ k d lo hi. less_is (prefix_cmp (get_or rows k d).prefix p) (parts.0 k d lo hi)), (λ k d lo hi. greater_is (prefix_cmp (get_or rows k d).prefix p) (parts.1 k d lo hi) (on k d lo hi (cases_lt place k))))
    where
      on : (k : ℕ) (d : BgpRow) → place ≤ k → k < length rows → (place < k) ⊎ (k ≤ place) → prefix_cmp (get_or rows k d).prefix p ≡ Equal → ⊥
      on k d lo hi (inl before) equal =
          let less : prefix_cmp (get_or rows place d).prefix p ≡ Less = subst (λ (q : Cidr). prefix_cmp (get_or rows place d).prefix q ≡ Less) (equal_is (get_or rows k d).prefix p equal) (rises place k d before hi) in
          let no : is_lt (prefix_cmp (get_or rows place d).prefix p) ≡ false = parts.1 place d (omega arith) (omega arith) in
          let yes : is_lt (prefix_cmp (get_or rows place d).prefix p) ≡ true = ap is_lt less in
          absurd cc
      on k d lo hi (inr here) equal =
          let same : k ≡ place = omega arith in
          other d (omega arith) (subst (λ (i : ℕ). prefix_cmp (get_or rows i d).prefix p ≡ Equal) same equal)

  -- where the first row is above a prefix, all are
  pub first_above : (p : Cidr) → ((d : BgpRow) → prefix_cmp (get_or rows zero d).prefix p ≡ Greater) → IsPartitionPoint (λ (row : BgpRow). prefix_cmp row.prefix p ≡ Less) (λ (row : BgpRow). prefix_cmp row.prefix p ≡ Greater) rows zero
  first_above p first = ((λ k d lo hi. absurd (omega arith)), (λ k d lo hi. on k d hi))
    where
      on : (k : ℕ) (d : BgpRow) → k < length rows → prefix_cmp (get_or rows k d).prefix p ≡ Greater
      on zero d hi = first d
      on (suc k) d hi =
          let low : prefix_cmp p (get_or rows zero d).prefix ≡ Less = back (get_or rows zero d).prefix p Greater (first d) in
          back p (get_or rows (suc k) d).prefix Less (prefix_total.trans p (get_or rows zero d).prefix (get_or rows (suc k) d).prefix low (rises 0 (suc k) d (omega arith) hi))
