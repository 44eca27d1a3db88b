-- The main table of a router, from what was read of its tables.
use Rattle.std.proofs.Common.{◌≡◌, ◌⊎◌, ℕ, ◌+◌, ◌^◌, ◌<◌, ◌≤◌, ◌++◌, false, List, [], ◌∷◌, length, map, drop, get_or, slice_index_or, append-nil, All, Option, Some, None, refl, sym, ap, subst, ◌∙◌, arith, inl, inr}
use Rattle.std.specs.List.{cons_option, flat_map, slice_get}
use Rattle.std.specs.Option.{option_map, option_map_or, option_and_then}
use Rattle.std.specs.Ordering.{is_le}
use Rattle.std.specs.declared.cmp.Ordering.TheVariants.{Less}
use Rattle.std.proofs.lemmas.List.{length-map, get_or-map}
use Rattle.nc_types.specs.Cidr.{Cidr, IsCidr}
use Rattle.nc_types.specs.Config.{ConfigView, ProcessView}
use Rattle.nc_types.specs.declared.config.AggregateStatement.{AggregateStatement}
use Rattle.nc_types.specs.Joining.{IsValid}
use Rattle.nc_types.specs.Network.{element_count}
use Rattle.nc_types.specs.WellFormed.{IsWellFormed}
use Rattle.nc_types.proofs.Few.{few_of_process, few_in_network}
use Rattle.nc_types.proofs.Members.{In, all_by_in, all_in, in_by_get, in_by_map, in_either, in_left, in_map, in_right}
use Rattle.nc_types.proofs.Walks.{drop_read}
use Rattle.nc_tables.specs.declared.base.BaseRow.{BaseRow}
use Rattle.nc_tables.specs.declared.bgp.MainRow.{MainRow}
use Rattle.nc_tables.specs.declared.router_rows.ChosenRow.{ChosenRow}
use Rattle.nc_tables.specs.Base.{prefix_cmp, same_prefix}
use Rattle.nc_tables.specs.Longest.{AreByPrefix}
use Rattle.nc_tables.specs.Order.{in_order}
use Rattle.nc_tables.specs.Main.{base_side, learnt_rows, main_rows_at, main_table, nearer, prefixes_at}
use Rattle.nc_tables.specs.Rounds.{BgpRowView, chosen_at, chosen_in, distinct, AreBgpRows}
use Rattle.nc_tables.specs.Sessions.{process_of}
use Rattle.nc_tables.specs.SpreadView.{row_view}
use Rattle.nc_tables.proofs.ByPrefix.{less_differs, less_differs_back}
use Rattle.nc_tables.proofs.SideBySide.{prefix_total, upto_upto}
use Rattle.nc_base_rib.proofs.Members.{Ascends}
use Rattle.nc_main_rib.specs.Sides.{active_from, base_in, bgp_rows, learnt_of, ArePassed}
use Rattle.nc_main_rib.proofs.Alone.{in_ordered, left_of, no_active, no_base, ordered, run_is, same_ordered, special_is}
use Rattle.nc_main_rib.proofs.Ascending.{distinct_ascend, of_distinct}
use Rattle.nc_main_rib.proofs.ByTurns.{flat_by_prefix}
use Rattle.nc_main_rib.proofs.Parts.{bgp_is, each_of}
use Rattle.nc_main_rib.proofs.Passing.{chosen_is, lower_in, rows_up, AreLater, AreLeft, AreUp, Passes}

-- ---- lists

-- lists that are seen by a view are as few as what is seen
pub few_seen : {T A : Type 0} (items : T → List A) (tables : List T) (view : List (List A)) → map items tables ≡ view → All (λ rows. length rows < 2 ^ 32) view → All (λ t. length (items t) < 2 ^ 32) tables
few_seen {T} {A} items tables view same few k d lt =
    let each : All (λ (rows : List A). length rows < 2 ^ 32) (map items tables) = subst (λ (v : List (List A)). All (λ (rows : List A). length rows < 2 ^ 32) v) (sym same) few in
    let here : length (get_or (map items tables) k (items d)) < 2 ^ 32 = each k (items d) (omega (arith, length-map tables items)) in
    subst (λ (rows : List A). length rows < 2 ^ 32) (get_or-map items tables k d (items d) lt) here

-- ---- the aggregates of a router

abbrev pub aggregates_in : Option ProcessView → List AggregateStatement
aggregates_in o = option_map_or (λ (p : ProcessView). p.aggregates) o []

-- they can be numbered
pub few_aggregates : (routers : List ConfigView) → IsValid routers → element_count routers < 2 ^ 32 → (router : ℕ) → length (aggregates_in (process_of routers router)) < 2 ^ 32
few_aggregates routers valid count router = on (slice_get routers router) refl
  where
    by_process : (c : ConfigView) → slice_get routers router ≡ Some c → (o : Option ProcessView) → c.process ≡ o → length (aggregates_in o) < 2 ^ 32
    by_process c at None e = omega arith
    by_process c at (Some p) e =
        let formed : IsWellFormed c = all_in IsWellFormed routers valid.each c (in_by_get routers router c at) in
        let few : length p.neighbors + (length p.networks + length p.aggregates) < length c.elements = few_of_process c p formed e in
        let all : length c.elements ≤ element_count routers = few_in_network routers router c at in
        omega arith

    on : (o : Option ConfigView) → slice_get routers router ≡ o → length (aggregates_in (option_and_then (λ (c : ConfigView). c.process) o)) < 2 ^ 32
    on None e = omega arith
    on (Some c) e = by_process c e c.process refl

prefixes_in : (o : Option ProcessView) → map (λ (a : AggregateStatement). a.prefix) (aggregates_in o) ≡ option_map_or (λ (p : ProcessView). map (λ (a : AggregateStatement). a.prefix) p.aggregates) o []
prefixes_in None = refl
prefixes_in (Some p) = refl

-- ---- the way along the prefixes

-- the one at a place is among those that are left there
pub next_in : (items : List Cidr) (k : ℕ) (p : Cidr) → p ≡ get_or items k p → k < length items → In p (drop k items)
next_in items k p is lt = subst (λ (l : List Cidr). In p l) (sym (drop_read items k p is lt)) (inl refl)

-- base rows that are passed at a prefix are so at a later one
pub passed_later : (rows : List BaseRow) (count : ℕ) (p q : Cidr) → prefix_cmp p q ≡ Less → ArePassed rows count p → ArePassed rows count q
passed_later rows count p q less passed = (passed.0, λ k d lo hi. upto_upto (get_or rows k d).prefix p q (passed.1 k d lo hi) (ap is_le less))

-- ---- the table

module _ (routers : List ConfigView) (tables : List (List BaseRow)) (table : List (List BgpRowView)) (router : ℕ) (base : List BaseRow) (aggregates : List AggregateStatement)
    (base_is : base ≡ slice_index_or tables router []) (aggregates_are : aggregates ≡ aggregates_in (process_of routers router)) where
  abbrev bgp : List BgpRowView
  bgp = slice_index_or table router []

  abbrev rows_at : Cidr → List MainRow
  rows_at p = main_rows_at routers tables table router p

  abbrev bases : List Cidr
  bases = map (λ (row : BaseRow). row.prefix) base

  abbrev seen : List Cidr
  seen = map (λ (row : BgpRowView). row.prefix) bgp

  abbrev own : List Cidr
  own = map (λ (a : AggregateStatement). a.prefix) aggregates

  -- all prefixes of the rows and the aggregates
  prefixes_are : in_order prefix_cmp (distinct (bases ++ (seen ++ own))) ≡ prefixes_at routers tables table router
  prefixes_are =
      ap (λ (l : List BaseRow). in_order prefix_cmp (distinct (map (λ (row : BaseRow). row.prefix) l ++ (seen ++ own)))) base_is
      ∙ ap (λ (l : List Cidr). in_order prefix_cmp (distinct (map (λ (row : BaseRow). row.prefix) (slice_index_or tables router []) ++ (seen ++ l))))
      (ap (map (λ (a : AggregateStatement). a.prefix)) aggregates_are ∙ prefixes_in (process_of routers router))

  -- a prefix's rows of both sides are its main rows, given the place of its first active aggregate
  pub rows_are : (p : Cidr) (place : Option ℕ) → place ≡ active_from bgp p 0 aggregates
      → nearer (base_in p base) (bgp_rows p place (chosen_in bgp p)) ≡ rows_at p
  rows_are p place is =
      let first = is ∙ ap (λ (l : List AggregateStatement). active_from bgp p 0 l) aggregates_are in
      ap (λ (l : List BaseRow). nearer (base_in p l) (bgp_rows p place (chosen_in bgp p))) base_is
      ∙ ap (λ (o : Option ℕ). nearer (base_side tables router p) (bgp_rows p o (chosen_at table router p))) first
      ∙ ap (λ (l : List MainRow). nearer (base_side tables router p) l) (sym (bgp_is table router p routers))

  -- a BGP row whose prefix is no one of base rows and of aggregates
  alone_is : (row : BgpRowView) → In row bgp → AreUp bgp → ((z : Cidr) → In z (bases ++ own) → same_prefix z row.prefix ≡ false) → rows_at row.prefix ≡ learnt_rows row.prefix row.chosen
  alone_is row i up other =
      let active = no_active bgp row.prefix 0 aggregates (λ a j. other a.prefix (in_right bases own a.prefix (in_map (λ (x : AggregateStatement). x.prefix) aggregates a j))) in
      let none = no_base row.prefix 0 base (λ r j. other r.prefix (in_left bases own r.prefix (in_map (λ (x : BaseRow). x.prefix) base r j))) in
      sym (rows_are row.prefix None (sym active))
      ∙ ap (λ (l : List MainRow). nearer l (learnt_rows row.prefix (chosen_in bgp row.prefix))) none
      ∙ ap (learnt_rows row.prefix) (chosen_is bgp up row i)

  module _ (items : List Cidr) (items_are : items ≡ in_order prefix_cmp (distinct (bases ++ own))) where
    whole_are : ordered (items ++ seen) ≡ prefixes_at routers tables table router
    whole_are = same_ordered (items ++ seen) (bases ++ (seen ++ own)) to from ∙ prefixes_are
      where
        special : (z : Cidr) → In z bases ⊎ In z own → In z (bases ++ (seen ++ own))
        special z (inl i) = in_left bases (seen ++ own) z i
        special z (inr i) = in_right bases (seen ++ own) z (in_right seen own z i)

        one : (z : Cidr) → In z items ⊎ In z seen → In z (bases ++ (seen ++ own))
        one z (inl i) = special z (in_either bases own z (of_distinct (bases ++ own) z (subst (λ (l : List Cidr). In z l) items_are i)))
        one z (inr i) = in_right bases (seen ++ own) z (in_left seen own z i)

        to : (z : Cidr) → In z (items ++ seen) → In z (bases ++ (seen ++ own))
        to z i = one z (in_either items seen z i)

        among : (z : Cidr) → In z (bases ++ own) → In z (items ++ seen)
        among z i = in_left items seen z (subst (λ (l : List Cidr). In z l) (sym items_are) (in_ordered (bases ++ own) z i))

        other : (z : Cidr) → In z seen ⊎ In z own → In z (items ++ seen)
        other z (inl i) = in_right items seen z i
        other z (inr i) = among z (in_right bases own z i)

        any : (z : Cidr) → In z bases ⊎ In z (seen ++ own) → In z (items ++ seen)
        any z (inl i) = among z (in_left bases own z i)
        any z (inr i) = other z (in_either seen own z i)

        from : (z : Cidr) → In z (bases ++ (seen ++ own)) → In z (items ++ seen)
        from z i = any z (in_either bases (seen ++ own) z i)

    -- at first all is left
    pub whole_is : left_of rows_at items bgp ≡ main_table routers tables table router
    unfolding main_table
    whole_is = ap (flat_map rows_at) whole_are

    module _ (are : AreBgpRows bgp) where
      -- a row that is left stands alone, if it is lower than all prefixes that are left
      alone_left : (rows : List BgpRowView) (left : List Cidr) → AreLeft bgp rows items left → (row : BgpRowView) → In row rows → ((z : Cidr) → In z left → prefix_cmp row.prefix z ≡ Less)
          → rows_at row.prefix ≡ learnt_rows row.prefix row.chosen
      alone_left rows left kept row i below =
          alone_is row (kept.among row i) (rows_up bgp are) (λ z j. on z (kept.known z (subst (λ (l : List Cidr). In z l) (sym items_are) (in_ordered (bases ++ own) z j))))
        where
          on : (z : Cidr) → In z left ⊎ AreLater rows z → same_prefix z row.prefix ≡ false
          on z (inl j) = less_differs_back row.prefix z (below z j)
          on z (inr past) = less_differs z row.prefix (past row i)

      -- the next prefix: the rows of lower ones, and what stands of it
      pub next_step : (rows lower : List BgpRowView) (mine : Option ChosenRow) (left : List BgpRowView) (p : Cidr) (later : List Cidr)
          → Passes rows lower mine left p → Ascends prefix_cmp prefix_total (p ∷ later) → AreLeft bgp rows items (p ∷ later)
          → left_of rows_at (p ∷ later) rows
          ≡ learnt_of lower ++ (rows_at p ++ left_of rows_at later left)
      next_step rows lower mine left p later pass up kept =
          ap (left_of rows_at (p ∷ later)) pass.parts
          ∙ run_is rows_at (p ∷ later) lower (cons_option (option_map row_view mine) left) (subst AreUp pass.parts kept.up) below
          (λ row i. alone_left rows (p ∷ later) kept row (lower_in rows lower mine left p pass row i) (below row i))
          ∙ ap (λ (l : List MainRow). learnt_of lower ++ l) (special_is rows_at p later mine left up.0 pass.same pass.later)
        where
          below : (row : BgpRowView) → In row lower → (z : Cidr) → In z (p ∷ later) → prefix_cmp row.prefix z ≡ Less
          below row i z (inl same) = subst (λ (q : Cidr). prefix_cmp row.prefix q ≡ Less) same (pass.before row i)
          below row i z (inr j) = prefix_total.trans row.prefix p z (pass.before row i) (up.0 z j)

      -- behind the last one
      pub last_step : (rows : List BgpRowView) → AreLeft bgp rows items [] → left_of rows_at [] rows ≡ learnt_of rows
      last_step rows kept =
          let all = append-nil rows in
          ap (left_of rows_at []) (sym all)
          ∙ run_is rows_at [] rows [] (subst AreUp (sym all) kept.up) (λ row i z j. absurd j) (λ row i. alone_left rows [] kept row i (λ z j. absurd j))
          ∙ append-nil (learnt_of rows)

      -- where all of these prefixes are valid, the main rows are in order
      pub table_by_prefix : All (λ (p : Cidr). IsCidr p.base p.len) items → AreByPrefix (λ (row : MainRow). row.prefix) (main_table routers tables table router)
      unfolding main_table
      table_by_prefix valid =
          flat_by_prefix rows_at (λ p z i. each_of routers tables table router p z i) (prefixes_at routers tables table router)
          (subst (λ (l : List Cidr). Ascends prefix_cmp prefix_total l) whole_are (distinct_ascend (items ++ seen)))
          (subst (λ (l : List Cidr). All (λ (p : Cidr). IsCidr p.base p.len) l) whole_are (all_by_in (λ (p : Cidr). IsCidr p.base p.len) (ordered (items ++ seen)) (λ z i. one z (in_either items seen z (of_distinct (items ++ seen) z i)))))
        where
          one : (z : Cidr) → In z items ⊎ In z seen → IsCidr z.base z.len
          one z (inl i) = all_in (λ (p : Cidr). IsCidr p.base p.len) items valid z i
          one z (inr i) =
              let made = in_by_map (λ (row : BgpRowView). row.prefix) bgp z i in
              subst (λ (p : Cidr). IsCidr p.base p.len) made.2 (all_in (λ (row : BgpRowView). IsCidr row.prefix.base row.prefix.len) bgp are.valid made.0 made.1)
