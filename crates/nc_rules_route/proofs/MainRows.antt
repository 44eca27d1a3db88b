-- What a main row is of exists: a base row, a chosen route of its prefix, or an aggregate that is active.
use Rattle.std.proofs.Common.{◌≡◌, ◌⊎◌, ℕ, ◌+◌, ◌<◌, Bool, true, false, cond, ◌&&◌, nat_le, List, [], ◌∷◌, length, map, Option, Some, None, refl, sym, subst, arith, inl, inr}
use Rattle.std.specs.List.{range_with_len, slice_get}
use Rattle.std.specs.Option.{option_map_or}
use Rattle.std.proofs.lemmas.Bool.{and_parts}
use Rattle.std.proofs.lemmas.Option.{slice_get_within, cond_some}
use Rattle.nc_types.specs.Cidr.{Cidr}
use Rattle.nc_types.specs.Config.{ConfigView, ProcessView}
use Rattle.nc_types.specs.declared.config.AggregateStatement.{AggregateStatement}
use Rattle.nc_tables.specs.declared.TheConstants.{LOCAL_DISTANCE}
use Rattle.nc_tables.specs.declared.base.BaseRow.{BaseRow}
use Rattle.nc_tables.specs.declared.bgp.Chosen.{Chosen}
use Rattle.nc_tables.specs.declared.bgp.MainRow.{MainRow}
use Rattle.nc_tables.specs.declared.bgp.MainFrom.{MainFrom}
use Rattle.nc_tables.specs.declared.bgp.MainFrom.TheVariants.{Base, Bgp, Discard}
use Rattle.nc_tables.specs.Base.{same_prefix}
use Rattle.nc_tables.specs.Reach.{rows_of}
use Rattle.nc_tables.specs.Sessions.{first_of, process_of}
use Rattle.nc_tables.specs.Choice.{is_learnt}
use Rattle.nc_tables.specs.Rounds.{BgpRowView, chosen_at, is_active, made_from}
use Rattle.nc_tables.specs.Distances.{distance_of}
use Rattle.nc_tables.specs.Main.{discards, learnt_rows, bgp_side, base_side, nearer, prefixes_at, main_rows_at, main_table}
use Rattle.nc_types.proofs.Members.{In, in_by_flat_map, in_by_map}
use Rattle.nc_tables.proofs.Ordered.{in_by_made}
use Rattle.nc_rules_route.proofs.Members.{in_range}

-- the rows of the base table on the one side, or those of BGP
pub by_nearer : (bases others : List MainRow) (m : MainRow) → In m (nearer bases others) → In m bases ⊎ In m others
by_nearer [] others m i = inr i
by_nearer (b ∷ bases) [] m i = inl i
by_nearer (b ∷ bases) (o ∷ others) m i = by_test (nat_le b.distance o.distance) i
  where
    by_test : (t : Bool) → In m (cond t (b ∷ bases) (o ∷ others)) → In m (b ∷ bases) ⊎ In m (o ∷ others)
    by_test true j = inl j
    by_test false j = inr j

module _ (routers : List ConfigView) (tables : List (List BaseRow)) (table : List (List BgpRowView)) where
  -- an aggregate at a place of a router that is active
  pub record IsGathering (router place : ℕ) : Type 0 where
    pub process : ProcessView
    pub aggregate : AggregateStatement
    pub own : process_of routers router ≡ Some process
    pub at : slice_get process.aggregates place ≡ Some aggregate
    pub active : is_active table router aggregate ≡ true

  -- what a row of a prefix is of exists
  abbrev pub IsOf : ℕ → Cidr → MainFrom → Type 0
  IsOf router prefix (Base place) = place < length (rows_of tables router)
  IsOf router prefix (Bgp place) = place < length (chosen_at table router prefix)
  IsOf router prefix (Discard place) = IsGathering router place

  module _ (router : ℕ) where
    abbrev IsSound : MainRow → Type 0
    IsSound m = IsOf router m.prefix m.from

    discard_sound : (prefix : Cidr) (m : MainRow) → In m (discards routers table router prefix) → IsSound m
    discard_sound prefix m i = by_process (process_of routers router) refl i
      where
        make : ℕ → AggregateStatement → Option MainRow
        make place a = cond (same_prefix a.prefix prefix && is_active table router a) (Some (record { prefix = prefix; distance = LOCAL_DISTANCE; from = Discard place })) None

        by_process : (o : Option ProcessView) → process_of routers router ≡ o → In m (option_map_or (λ p. made_from make 0 p.aggregates) o []) → IsSound m
        by_process None own j = absurd j
        by_process (Some p) own j =
            let made = in_by_made make 0 p.aggregates m j in
            let here : 0 + made.0 ≡ made.0 = omega arith in
            let is = subst (λ (k : ℕ). make k made.1 ≡ Some m) here made.3 in
            let parts = cond_some (same_prefix made.1.prefix prefix && is_active table router made.1) (record { prefix = prefix; distance = LOCAL_DISTANCE; from = Discard made.0 }) m is in
            let both = and_parts (same_prefix made.1.prefix prefix) (is_active table router made.1) parts.0 in
            subst IsSound parts.1 (record { process = p; aggregate = made.1; own = own; at = made.2; active = both.1 })

    learnt_sound : (prefix : Cidr) (chosen : List Chosen) → chosen_at table router prefix ≡ chosen → (m : MainRow) → In m (learnt_rows prefix chosen) → IsSound m
    learnt_sound prefix [] is m i = absurd i
    learnt_sound prefix (best ∷ others) is m i = by_test (is_learnt best.from) i
      where
        make : ℕ → MainRow
        make place = record { prefix = prefix; distance = distance_of best; from = Bgp place }

        by_test : (b : Bool) → In m (cond b (map make (range_with_len 0 (length others + 1))) []) → IsSound m
        by_test false j = absurd j
        by_test true j =
            let made = in_by_map make (range_with_len 0 (length others + 1)) m j in
            let lt : made.0 < 0 + (length others + 1) = in_range 0 (length others + 1) made.0 made.1 in
            let within : made.0 < length (best ∷ others) = omega arith in
            subst IsSound made.2 (subst (λ (xs : List Chosen). made.0 < length xs) (sym is) within)

    bgp_sound : (prefix : Cidr) (m : MainRow) → In m (bgp_side routers table router prefix) → IsSound m
    bgp_sound prefix m i = by_discards (discards routers table router prefix) (discard_sound prefix m) i
      where
        by_discards : (ds : List MainRow) → (In m ds → IsSound m) → In m (option_map_or (λ row. row ∷ []) (first_of ds) (learnt_rows prefix (chosen_at table router prefix))) → IsSound m
        by_discards [] each j = learnt_sound prefix (chosen_at table router prefix) refl m j
        by_discards (d ∷ ds) each (inl same) = each (inl same)
        by_discards (d ∷ ds) each (inr j) = absurd j

    base_sound : (prefix : Cidr) (m : MainRow) → In m (base_side tables router prefix) → IsSound m
    base_sound prefix m i =
        let rows = rows_of tables router in
        let made = in_by_made make 0 rows m i in
        let here : 0 + made.0 ≡ made.0 = omega arith in
        let is = subst (λ (k : ℕ). make k made.1 ≡ Some m) here made.3 in
        let parts = cond_some (same_prefix made.1.prefix prefix) (record { prefix = prefix; distance = made.1.distance; from = Base made.0 }) m is in
        subst IsSound parts.1 (slice_get_within rows made.0 made.1 made.2)
      where
        make : ℕ → BaseRow → Option MainRow
        make place row = cond (same_prefix row.prefix prefix) (Some (record { prefix = prefix; distance = row.distance; from = Base place })) None

    pub main_sound : (m : MainRow) → In m (main_table routers tables table router) → IsSound m
    unfolding main_table
    main_sound m i =
        let made = in_by_flat_map (main_rows_at routers tables table router) (prefixes_at routers tables table router) m i in
        by_side made.0 (by_nearer (base_side tables router made.0) (bgp_side routers table router made.0) m made.2)
      where
        by_side : (prefix : Cidr) → In m (base_side tables router prefix) ⊎ In m (bgp_side routers table router prefix) → IsSound m
        by_side prefix (inl j) = base_sound prefix m j
        by_side prefix (inr j) = bgp_sound prefix m j
