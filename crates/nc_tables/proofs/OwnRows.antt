-- A router's own rows without the first of them, which stand up to a prefix: of the prefixes behind it the same is found in both.
use Rattle.std.proofs.Common.{◌≡◌, ℕ, zero, suc, ◌<◌, ◌≤◌, Bool, true, cond, List, [], ◌∷◌, length, map, take, drop, get_or, All, Option, Some, refl, sym, ap, subst, ◌∙◌, arith}
use Rattle.std.specs.List.{find}
use Rattle.std.specs.Option.{option_map_or}
use Rattle.std.specs.Ordering.{is_le}
use Rattle.std.specs.declared.cmp.Ordering.{Ordering}
use Rattle.std.specs.declared.cmp.Ordering.TheVariants.{Less, Equal, Greater}
use Rattle.std.proofs.lemmas.List.Elements.{All-head, All-tail}
use Rattle.nc_types.specs.Cidr.{Cidr, IsCidr}
use Rattle.nc_types.specs.declared.TheConstants.{MULTIPATH_LIMIT}
use Rattle.nc_tables.specs.declared.bgp.BgpRow.{BgpRow}
use Rattle.nc_tables.specs.declared.bgp.Chosen.{Chosen}
use Rattle.nc_tables.specs.Base.{prefix_cmp, same_prefix}
use Rattle.nc_tables.specs.LocRibs.{row_before, rows_by, Ascend}
use Rattle.nc_tables.specs.Rounds.{BgpRowView, bgp_row_view, AreBgpRows}
use Rattle.nc_tables.specs.Spread.{with_prefix, chosen_or, choice_of, choices_of, spread_rows}
use Rattle.nc_tables.specs.OwnRows.{HaveSameRows}
use Rattle.nc_tables.specs.SpreadView.{ArePlaced}
use Rattle.nc_tables.proofs.ByPrefix.{less_differs, pairs_head, pairs_tail}
use Rattle.nc_tables.proofs.InOrder.{equal_is}
use Rattle.nc_tables.proofs.SideBySide.{prefix_total}

-- ---- those that are left are rows, and prefixes

pub rows_left : (n : ℕ) (rows : List BgpRowView) → AreBgpRows rows → AreBgpRows (drop n rows)
rows_left zero rows are = are
rows_left (suc n) [] are = are
rows_left (suc n) (row ∷ rows) are = rows_left n rows (record {
  ordered = pairs_tail (λ (a b : BgpRowView). prefix_cmp a.prefix b.prefix ≡ Less) row rows are.ordered;
  valid = All-tail (λ (r : BgpRowView). IsCidr r.prefix.base r.prefix.len) row rows are.valid;
  some = All-tail (λ (r : BgpRowView). 0 < length r.chosen) row rows are.some;
  few = All-tail (λ (r : BgpRowView). length r.chosen ≤ MULTIPATH_LIMIT) row rows are.few;
  own = All-tail (λ (r : BgpRowView). All (λ x. x.route.prefix ≡ r.prefix) r.chosen) row rows are.own;
})

pub placed_left : (n : ℕ) (ps : List Cidr) (ks : List ℕ) → ArePlaced ps ks → ArePlaced (drop n ps) (drop n ks)
placed_left zero ps ks are = are
placed_left (suc n) [] [] are = are
placed_left (suc n) [] (k ∷ ks) are = absurd (let count = are.count in omega arith)
placed_left (suc n) (p ∷ ps) [] are = absurd (let count = are.count in omega arith)
placed_left (suc n) (p ∷ ps) (k ∷ ks) are = placed_left n ps ks (record {
  ordered = pairs_tail (λ (a b : Cidr). prefix_cmp a b ≡ Less) p ps are.ordered;
  valid = All-tail (λ (q : Cidr). IsCidr q.base q.len) p ps are.valid;
  count = let count = are.count in omega arith;
})

-- ---- what is found

module _ (p q : Cidr) (less : prefix_cmp q p ≡ Less) where
  below : (r : Cidr) → is_le (prefix_cmp r q) ≡ true → prefix_cmp r p ≡ Less
  below r = on (prefix_cmp r q) refl
    where
      on : (o : Ordering) → prefix_cmp r q ≡ o → is_le o ≡ true → prefix_cmp r p ≡ Less
      on Less e le = prefix_total.trans r q p e less
      on Equal e le = ap (λ (s : Cidr). prefix_cmp s p) (equal_is r q e) ∙ less
      on Greater e le = absurd cc

  found_left : (n : ℕ) (rows : List BgpRow) → All (λ row. is_le (prefix_cmp row.prefix q) ≡ true) (take n rows)
      → find (λ row. same_prefix row.prefix p) (map bgp_row_view (drop n rows)) ≡ find (λ row. same_prefix row.prefix p) (map bgp_row_view rows)
  found_left zero rows upto = refl
  found_left (suc n) [] upto = refl
  found_left (suc n) (row ∷ rows) upto =
      let le = All-head (λ (r : BgpRow). is_le (prefix_cmp r.prefix q) ≡ true) row (take n rows) upto in
      found_left n rows (All-tail (λ (r : BgpRow). is_le (prefix_cmp r.prefix q) ≡ true) row (take n rows) upto)
      ∙ sym (ap (λ (b : Bool). cond b (Some (bgp_row_view row)) (find (λ r. same_prefix r.prefix p) (map bgp_row_view rows))) (less_differs row.prefix p (below row.prefix le)))

pub same_left : (q : Cidr) (passed : ℕ) (rows : List BgpRow) (ps : List Cidr) → All (λ row. is_le (prefix_cmp row.prefix q) ≡ true) (take passed rows) → All (λ p. prefix_cmp q p ≡ Less) ps
    → HaveSameRows ps (map bgp_row_view (drop passed rows)) (map bgp_row_view rows)
same_left q passed rows ps upto above k d lt = found_left (get_or ps k d) q (above k d lt) passed rows upto

-- ---- the same is chosen of each

module _ (own others : List BgpRowView) (standing : List (List Chosen)) where
  same_choices : (ps : List Cidr) (ks : List ℕ) → HaveSameRows ps own others → choices_of own standing ps ks ≡ choices_of others standing ps ks
  same_choices [] ks same = refl
  same_choices (p ∷ ps) [] same = refl
  same_choices (p ∷ ps) (k ∷ ks) same =
      let here = All-head (λ (q : Cidr). find (λ row. same_prefix row.prefix q) own ≡ find (λ row. same_prefix row.prefix q) others) p ps same in
      let rest = All-tail (λ (q : Cidr). find (λ row. same_prefix row.prefix q) own ≡ find (λ row. same_prefix row.prefix q) others) p ps same in
      ap (λ (o : Option BgpRowView). map (with_prefix p) (option_map_or (λ (row : BgpRowView). row.chosen) o (get_or standing k [])) ∷ choices_of own standing ps ks) here
      ∙ ap (λ (css : List (List Chosen)). choice_of others standing p k ∷ css) (same_choices ps ks rest)

  pub same_spread : (ps : List Cidr) (ks : List ℕ) → HaveSameRows ps own others → spread_rows own standing ps ks ≡ spread_rows others standing ps ks
  same_spread ps ks same = ap (rows_by ps) (same_choices ps ks same)

-- ---- the first prefix is passed

module _ (all : List Cidr) (places : List ℕ) (p : Cidr) (ps : List Cidr) (k : ℕ) (ks : List ℕ) (is : all ≡ p ∷ ps) (are : places ≡ k ∷ ks) where
  -- by what is held of it
  pub passed_rows : (own left : List BgpRowView) (standing : List (List Chosen)) (held : List Chosen) → held ≡ chosen_or own p (get_or standing k []) → HaveSameRows ps left own
      → spread_rows own standing all places ≡ row_before p (map (with_prefix p) held) (spread_rows left standing ps ks)
  passed_rows own left standing held held_is same =
      ap (λ (l : List Cidr). spread_rows own standing l places) is
      ∙ ap (spread_rows own standing (p ∷ ps)) are
      ∙ sym (ap (λ (l : List Chosen). row_before p (map (with_prefix p) l) (spread_rows own standing ps ks)) held_is)
      ∙ ap (row_before p (map (with_prefix p) held)) (sym (same_spread left own standing ps ks same))

  pub above_first : ArePlaced all places → All (λ q. prefix_cmp p q ≡ Less) ps
  above_first placed = pairs_head (λ (a b : Cidr). prefix_cmp a b ≡ Less) p ps (subst Ascend is placed.ordered)

  pub placed_behind : ArePlaced all places → ArePlaced ps ks
  placed_behind placed = placed_left 1 (p ∷ ps) (k ∷ ks) (subst (ArePlaced (p ∷ ps)) are (subst (λ (l : List Cidr). ArePlaced l places) is placed))

  pub within_behind : (n : ℕ) → All (λ place. place < n) places → All (λ place. place < n) ks
  within_behind n within = All-tail (λ (place : ℕ). place < n) k ks (subst (All (λ place. place < n)) are within)
