-- How many main rows a router has at most: for those who promise that they can be numbered.
use Rattle.std.proofs.Common.{◌≡◌, ℕ, suc, ◌+◌, ◌*◌, ◌^◌, ◌<◌, ◌≤◌, Bool, true, false, cond, nat_le, List, [], ◌∷◌, ◌++◌, length, map, get_or, slice_index_or, All, Option, Some, None, refl, sym, ap, subst, ◌∙◌, arith, inl, inr}
use Rattle.std.specs.List.{flat_map, list_any, range_with_len}
use Rattle.std.proofs.lemmas.Bool.{cases_lt}
use Rattle.std.proofs.lemmas.List.Elements.{All-get_or}
use Rattle.std.specs.Option.{option_map_or}
use Rattle.std.specs.Ordering.{is_eq}
use Rattle.std.specs.declared.cmp.Ordering.TheVariants.{Less}
use Rattle.std.proofs.lemmas.List.{get_or-map, get_or_past, length-append, length-map}
use Rattle.std.proofs.lemmas.List.FromFn.{length-range_with_len, get_or-range_with_len}
use Rattle.nc_types.specs.Cidr.{Cidr}
use Rattle.nc_types.specs.Config.{ConfigView, ProcessView}
use Rattle.nc_types.specs.declared.TheConstants.{MULTIPATH_LIMIT}
use Rattle.nc_types.specs.declared.config.AggregateStatement.{AggregateStatement}
use Rattle.nc_types.proofs.Members.{In}
use Rattle.nc_types.proofs.Sameness.{same_prefix_is}
use Rattle.nc_tables.specs.declared.base.BaseRow.{BaseRow}
use Rattle.nc_tables.specs.declared.bgp.Chosen.{Chosen}
use Rattle.nc_tables.specs.declared.bgp.MainRow.{MainRow}
use Rattle.nc_tables.specs.Base.{prefix_cmp, same_prefix}
use Rattle.nc_tables.specs.Choice.{is_learnt}
use Rattle.nc_tables.specs.Distances.{distance_of}
use Rattle.nc_tables.specs.Main.{base_side, bgp_side, learnt_rows, main_rows_at, main_table, main_tables, nearer}
use Rattle.nc_tables.specs.Order.{in_order}
use Rattle.nc_tables.specs.Rounds.{AreBgpRows, BgpRowView, chosen_at, distinct, made_from}
use Rattle.nc_tables.specs.Sessions.{process_of}
use Rattle.nc_tables.proofs.Ordered.{length_in_order}
use Rattle.nc_tables.proofs.SideBySide.{prefix_total, same_by_cmp}
use Rattle.nc_base_rib.proofs.Members.{Ascends}
use Rattle.nc_main_rib.specs.Sides.{base_row, bgp_rows, learnt_row}
use Rattle.nc_main_rib.proofs.Ascending.{distinct_ascend}
use Rattle.nc_main_rib.proofs.Parts.{base_by, bgp_is, few_chosen}

-- ---- base rows: each is of one prefix

abbrev hits : Cidr → List Cidr → ℕ
hits q [] = 0
hits q (p ∷ ps) = cond (same_prefix q p) 1 0 + hits q ps

no_hit : (q p : Cidr) (ps : List Cidr) → q ≡ p → ((z : Cidr) → In z ps → prefix_cmp p z ≡ Less) → hits q ps ≡ 0
no_hit q p [] same above = refl
no_hit q p (z ∷ zs) same above =
    let other : same_prefix q z ≡ false = ap (λ (r : Cidr). same_prefix r z) same ∙ same_by_cmp p z ∙ ap is_eq (above z (inl refl)) in
    let here : cond {A = ℕ} (same_prefix q z) 1 0 ≡ 0 = ap (λ (b : Bool). cond {A = ℕ} b 1 0) other in
    let later : hits q zs ≡ 0 = no_hit q p zs same (λ w i. above w (inr i)) in
    omega (arith, here, later)

one_hit : (q : Cidr) (ps : List Cidr) → Ascends prefix_cmp prefix_total ps → hits q ps ≤ 1
one_hit q [] up = omega arith
one_hit q (p ∷ ps) up = on (same_prefix q p) refl (one_hit q ps up.1)
  where
    on : (b : Bool) → same_prefix q p ≡ b → hits q ps ≤ 1 → cond b 1 0 + hits q ps ≤ 1
    on true same rest = let none : hits q ps ≡ 0 = no_hit q p ps (same_prefix_is q p same) up.0 in omega arith
    on false other rest = omega arith

abbrev of_base : ℕ → List BaseRow → Cidr → List MainRow
of_base place rows p = made_from (base_by p) place rows

one_row : (place : ℕ) (row : BaseRow) (rows : List BaseRow) (p : Cidr) → length (of_base place (row ∷ rows) p) ≡ cond (same_prefix row.prefix p) 1 0 + length (of_base (suc place) rows p)
one_row place row rows p = on (same_prefix row.prefix p)
  where
    on : (b : Bool) → length (option_map_or (λ y. y ∷ of_base (suc place) rows p) (cond b (Some (base_row p place row)) None) (of_base (suc place) rows p)) ≡ cond b 1 0 + length (of_base (suc place) rows p)
    on true = omega arith
    on false = omega arith

one_row_each : (place : ℕ) (row : BaseRow) (rows : List BaseRow) (ps : List Cidr) → length (flat_map (of_base place (row ∷ rows)) ps) ≡ hits row.prefix ps + length (flat_map (of_base (suc place) rows) ps)
one_row_each place row rows [] = omega arith
one_row_each place row rows (p ∷ ps) =
    omega (
      arith,
      length-append (of_base place (row ∷ rows) p) (flat_map (of_base place (row ∷ rows)) ps),
      length-append (of_base (suc place) rows p) (flat_map (of_base (suc place) rows) ps),
      one_row place row rows p,
      one_row_each place row rows ps,
    )

no_rows : (place : ℕ) (ps : List Cidr) → length (flat_map (of_base place []) ps) ≡ 0
no_rows place [] = refl
no_rows place (p ∷ ps) = no_rows place ps

base_count : (place : ℕ) (rows : List BaseRow) (ps : List Cidr) → Ascends prefix_cmp prefix_total ps → length (flat_map (of_base place rows) ps) ≤ length rows
base_count place [] ps up = omega (arith, no_rows place ps)
base_count place (row ∷ rows) ps up = omega (arith, one_row_each place row rows ps, one_hit row.prefix ps up, base_count (suc place) rows ps up)

-- ---- what BGP has: no more of a prefix than are used at once

learnt_count : (prefix : Cidr) (chosen : List Chosen) → length (learnt_rows prefix chosen) ≤ length chosen
learnt_count prefix [] = omega arith
learnt_count prefix (best ∷ others) = on (is_learnt best.from)
  where
    on : (b : Bool) → length (cond b (map (learnt_row prefix (distance_of best)) (range_with_len 0 (length others + 1))) []) ≤ suc (length others)
    on true = omega (arith, length-map (range_with_len 0 (length others + 1)) (learnt_row prefix (distance_of best)), length-range_with_len 0 (length others + 1))
    on false = omega arith

bgp_count : (prefix : Cidr) (o : Option ℕ) (chosen : List Chosen) → length chosen ≤ 16 → length (bgp_rows prefix o chosen) ≤ 16
bgp_count prefix None chosen few = omega (arith, learnt_count prefix chosen)
bgp_count prefix (Some place) chosen few = omega arith

nearer_count : (base bgp : List MainRow) → length (nearer base bgp) ≤ length base + length bgp
nearer_count [] bgp = omega arith
nearer_count (row ∷ more) [] = omega arith
nearer_count (row ∷ more) (other ∷ others) = on (nat_le row.distance other.distance)
  where
    on : (b : Bool) → length (cond b (row ∷ more) (other ∷ others)) ≤ length (row ∷ more) + length (other ∷ others)
    on true = omega arith
    on false = omega arith

pub distinct_count : (ps : List Cidr) → length (distinct ps) ≤ length ps
distinct_count [] = omega arith
distinct_count (p ∷ ps) = on (list_any (same_prefix p) ps) (distinct_count ps)
  where
    on : (b : Bool) → length (distinct ps) ≤ length ps → length (cond b (distinct ps) (p ∷ distinct ps)) ≤ suc (length ps)
    on true few = omega arith
    on false few = omega arith

-- ---- a router

-- the prefixes of its aggregates
abbrev pub own_prefixes : List ConfigView → ℕ → List Cidr
own_prefixes routers router = option_map_or (λ (p : ProcessView). map (λ (a : AggregateStatement). a.prefix) p.aggregates) (process_of routers router) []

module _ (routers : List ConfigView) (tables : List (List BaseRow)) (table : List (List BgpRowView)) (router : ℕ) (few : All (λ (row : BgpRowView). length row.chosen ≤ MULTIPATH_LIMIT) (slice_index_or table router [])) where
  side_count : (p : Cidr) → length (bgp_side routers table router p) ≤ 16
  side_count p =
      let chosen : length (chosen_at table router p) ≤ 16 = few_chosen (slice_index_or table router []) p few in
      subst (λ (l : List MainRow). length l ≤ 16) (sym (bgp_is table router p routers)) (bgp_count p _ (chosen_at table router p) chosen)

  rows_count : (ps : List Cidr) → length (flat_map (main_rows_at routers tables table router) ps) ≤ length (flat_map (base_side tables router) ps) + 16 * length ps
  rows_count [] = omega arith
  rows_count (p ∷ ps) =
      omega (
        arith,
        length-append (main_rows_at routers tables table router p) (flat_map (main_rows_at routers tables table router) ps),
        length-append (base_side tables router p) (flat_map (base_side tables router) ps),
        nearer_count (base_side tables router p) (bgp_side routers table router p),
        side_count p,
        rows_count ps,
      )

  -- no more than 17 for each base row, and 16 for each BGP row and each aggregate
  pub main_count : length (main_table routers tables table router)
      ≤ 17 * length (slice_index_or tables router []) + (16 * length (slice_index_or table router []) + 16 * length (own_prefixes routers router))
  unfolding main_table
  main_count =
      let base = map (λ (row : BaseRow). row.prefix) (slice_index_or tables router []) in
      let bgp = map (λ (row : BgpRowView). row.prefix) (slice_index_or table router []) in
      let own = own_prefixes routers router in
      let ps = in_order prefix_cmp (distinct (base ++ (bgp ++ own))) in
      omega (
        arith,
        rows_count ps,
        base_count 0 (slice_index_or tables router []) ps (distinct_ascend (base ++ (bgp ++ own))),
        length_in_order prefix_cmp (distinct (base ++ (bgp ++ own))),
        distinct_count (base ++ (bgp ++ own)),
        length-append base (bgp ++ own),
        length-append bgp own,
        length-map (slice_index_or tables router []) (λ (row : BaseRow). row.prefix),
        length-map (slice_index_or table router []) (λ (row : BgpRowView). row.prefix),
      )

module _ (routers : List ConfigView) (tables : List (List BaseRow)) (table : List (List BgpRowView)) (rows : All AreBgpRows table) where
  few_at : (router : ℕ) → All (λ (row : BgpRowView). length row.chosen ≤ MULTIPATH_LIMIT) (slice_index_or table router [])
  few_at router = elim (cases_lt router (length table)) [
    | inl lt ↦ (All-get_or AreBgpRows table router [] lt rows).few
    | inr past ↦ subst (λ (l : List BgpRowView). All (λ (row : BgpRowView). length row.chosen ≤ MULTIPATH_LIMIT) l) (sym (get_or_past table router [] past)) (λ k d lt. absurd (omega arith))
  ]

  -- where the tables of each router are this small, its main rows can be numbered
  pub few_main : ((router : ℕ) → router < length routers → 17 * length (slice_index_or tables router []) + (16 * length (slice_index_or table router []) + 16 * length (own_prefixes routers router)) < 2 ^ 32)
      → All (λ (l : List MainRow). length l < 2 ^ 32) (main_tables routers tables table)
  few_main small k d lt =
      let count : length (range_with_len 0 (length routers)) ≡ length routers = length-range_with_len 0 (length routers) in
      let within : k < length (range_with_len 0 (length routers)) = omega (arith, lt, length-map (range_with_len 0 (length routers)) (main_table routers tables table)) in
      let here : get_or (map (main_table routers tables table) (range_with_len 0 (length routers))) k d ≡ main_table routers tables table k =
      get_or-map (main_table routers tables table) (range_with_len 0 (length routers)) k 0 d within ∙ ap (main_table routers tables table) (get_or-range_with_len 0 (length routers) k 0 (omega (arith, count)) ∙ omega arith) in
      let most = main_count routers tables table k (few_at k) in
      let bound = small k (omega (arith, count)) in
      subst (λ (l : List MainRow). length l < 2 ^ 32) (sym here) (omega (arith, most, bound))
