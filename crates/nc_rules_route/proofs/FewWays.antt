-- How many alternatives a router has for an address: those of the main rows of one prefix, so no more than 17 for each base row, and 16.
use Rattle.std.proofs.Common.{◌≡◌, ℕ, suc, ◌+◌, ◌*◌, ◌^◌, ◌<◌, ◌≤◌, Bool, true, false, cond, nat_le, List, [], ◌∷◌, ◌++◌, length, map, get_or, All, Option, Some, None, refl, sym, ap, subst, arith}
use Rattle.std.specs.List.{flat_map, range_with_len, slice_get, slice_index_or, sum_by}
use Rattle.std.specs.Option.{option_map_or}
use Rattle.std.proofs.lemmas.Nat.{mul-le}
use Rattle.std.proofs.lemmas.List.{length-map}
use Rattle.std.proofs.lemmas.List.FromFn.{length-map-range_with_len}
use Rattle.std.proofs.lemmas.List.Sums.{length-filter, count_by-le-length, sum_by-le, sum_by-le-sum_by}
use Rattle.nc_types.specs.declared.TheConstants.{ROUTER_LIMIT, LINE_LIMIT}
use Rattle.nc_types.specs.Cidr.{Cidr, IsCidr}
use Rattle.nc_types.specs.Config.{ConfigView}
use Rattle.nc_types.specs.Network.{element_count}
use Rattle.nc_types.proofs.Few.{few_in_network}
use Rattle.nc_types.proofs.Members.{In, in_map, all_in}
use Rattle.nc_tables.specs.declared.base.BaseRow.{BaseRow}
use Rattle.nc_tables.specs.declared.bgp.Chosen.{Chosen}
use Rattle.nc_tables.specs.declared.bgp.MainRow.{MainRow}
use Rattle.nc_tables.specs.declared.bgp.MainFrom.{MainFrom}
use Rattle.nc_tables.specs.declared.bgp.MainFrom.TheVariants.{Base, Bgp, Discard}
use Rattle.nc_tables.specs.Base.{same_prefix, prefix_cmp}
use Rattle.nc_tables.specs.Choice.{is_learnt}
use Rattle.nc_tables.specs.Forwarding.{Alternative, going, mains_of, bgp_hop, ways_of, alternatives}
use Rattle.nc_tables.specs.Longest.{AreByPrefix, is_longest, longest}
use Rattle.nc_tables.specs.Distances.{distance_of}
use Rattle.nc_tables.specs.Main.{discards, learnt_rows, nearer, bgp_side, base_side, prefixes_at, main_rows_at, main_table}
use Rattle.nc_tables.specs.Order.{in_order}
use Rattle.nc_tables.specs.Reach.{rows_of, is_hit, hits, leads_to}
use Rattle.nc_tables.specs.Rounds.{BgpRowView, chosen_at, distinct}
use Rattle.nc_tables.specs.Sessions.{first_of, process_of}
use Rattle.nc_tables.specs.State.{StateView, IsState}
use Rattle.nc_tables.proofs.LongestPrefix.{places_map}
use Rattle.nc_tables.proofs.Ordered.{in_its_order}
use Rattle.nc_tables.proofs.RowCount.{few_rows}
use Rattle.nc_fact.specs.Facts.{base_rows, main_rows}
use Rattle.nc_fact.proofs.Few.{formed_at, few_chosen}
use Rattle.nc_rules_route.proofs.Members.{in_flat_map}
use Rattle.nc_rules_route.proofs.OnePrefix.{has_prefix, one_longest}
use Rattle.nc_rules_route.proofs.Tables.{base_rows_at, base_rows_none, main_rows_are}
use Rattle.nc_rules_route.proofs.Totals.{counted, counted_upto, counted_passes, few_places, made_few, made_count, sum_of_parts, some_counts, sum_in_order, AreOne, most_of_one}

-- the rows of one side count no more than both
nearer_sum : (f : MainRow → ℕ) (bases others : List MainRow) → sum_by f (nearer bases others) ≤ sum_by f bases + sum_by f others
nearer_sum f [] others = omega arith
nearer_sum f (b ∷ bases) [] = omega arith
nearer_sum f (b ∷ bases) (o ∷ others) = by_test (nat_le b.distance o.distance)
  where
    by_test : (t : Bool) → sum_by f (cond t (b ∷ bases) (o ∷ others)) ≤ sum_by f (b ∷ bases) + sum_by f (o ∷ others)
    by_test true = omega arith
    by_test false = omega arith

-- no more rows were learnt than candidates are chosen
few_learnt : (p : Cidr) (chosen : List Chosen) → length (learnt_rows p chosen) ≤ length chosen
few_learnt p [] = omega arith
few_learnt p (best ∷ others) = by_test (is_learnt best.from)
  where
    make : ℕ → MainRow
    make place = record { prefix = p; distance = distance_of best; from = Bgp place }

    by_test : (b : Bool) → length (cond b (map make (range_with_len 0 (length others + 1))) []) ≤ suc (length others)
    by_test true = omega (arith, length-map-range_with_len make 0 (length others + 1))
    by_test false = omega arith

module _ (routers : List ConfigView) (tables : List (List BaseRow)) (table : List (List BgpRowView)) (mains : List (List MainRow)) (router addr : ℕ) where
  -- how many base rows there are
  abbrev count_of_base : ℕ
  count_of_base = length (rows_of tables router)

  -- how many ways a main row has at most, by what it is of
  abbrev most_of : MainFrom → ℕ
  most_of (Base place) = 1
  most_of (Bgp place) = count_of_base
  most_of (Discard place) = 1

  abbrev most_by : MainRow → ℕ
  most_by m = most_of m.from

  most_upto : (from : MainFrom) → most_of from ≤ count_of_base + 1
  most_upto (Base place) = omega arith
  most_upto (Bgp place) = omega arith
  most_upto (Discard place) = omega arith

  -- ---- the ways of one main row

  few_hits : (hop : ℕ) → length (hits tables router hop) ≤ count_of_base
  unfolding longest
  few_hits hop =
      let prefixes = map (λ (row : BaseRow). row.prefix) (rows_of tables router) in
      omega (
        arith,
        length-filter (is_hit tables router) (longest prefixes hop),
        count_by-le-length (is_hit tables router) (longest prefixes hop),
        few_places (is_longest prefixes hop) 0 prefixes,
        length-map (rows_of tables router) (λ (row : BaseRow). row.prefix),
      )

  few_by_row : (place : ℕ) (m : MainRow) (from : MainFrom) → length (ways_of routers tables table mains router addr place m from) ≤ most_of from
  few_by_row place m (Base at) = omega arith
  few_by_row place m (Discard at) = omega arith
  few_by_row place m (Bgp at) = by_hop (bgp_hop table router m at)
    where
      way_by : ℕ → ℕ → Alternative
      way_by hop hit = record { main = place; base = Some hit; outcome = going (leads_to routers tables router hop hit) }

      by_hop : (o : Option ℕ) → length (option_map_or (λ hop. map (way_by hop) (hits tables router hop)) o []) ≤ count_of_base
      by_hop None = omega arith
      by_hop (Some hop) = omega (arith, length-map (hits tables router hop) (way_by hop), few_hits hop)

  -- ---- the ways of the main rows of one prefix

  base_sum : (p : Cidr) → sum_by most_by (base_side tables router p) ≤ count_of_base
  base_sum p = made_count most_by make each 0 (rows_of tables router)
    where
      main_row : ℕ → BaseRow → MainRow
      main_row place row = record { prefix = p; distance = row.distance; from = Base place }

      make : ℕ → BaseRow → Option MainRow
      make place row = cond (same_prefix row.prefix p) (Some (main_row place row)) None

      by_test : (place : ℕ) (row : BaseRow) (b : Bool) → option_map_or most_by (cond b (Some (main_row place row)) None) 0 ≤ 1
      by_test place row true = omega arith
      by_test place row false = omega arith

      each : (place : ℕ) (row : BaseRow) → option_map_or most_by (make place row) 0 ≤ 1
      each place row = by_test place row (same_prefix row.prefix p)

  few_of_bgp : (p : Cidr) → length (chosen_at table router p) ≤ 16 → length (bgp_side routers table router p) ≤ 16
  few_of_bgp p few = by_first (first_of (discards routers table router p))
    where
      by_first : (o : Option MainRow) → length (option_map_or (λ row. row ∷ []) o (learnt_rows p (chosen_at table router p))) ≤ 16
      by_first None = omega (arith, few, few_learnt p (chosen_at table router p))
      by_first (Some row) = omega arith

  bgp_sum : (p : Cidr) → length (chosen_at table router p) ≤ 16 → sum_by most_by (bgp_side routers table router p) ≤ 16 * (count_of_base + 1)
  bgp_sum p few =
      let rows = bgp_side routers table router p in
      let sum = sum_by-le most_by (count_of_base + 1) rows (λ k d lt. most_upto (get_or rows k d).from) in
      let product = mul-le (length rows) (count_of_base + 1) 16 (count_of_base + 1) (few_of_bgp p few) (omega arith) in
      omega (arith, sum, product)

  prefix_sum : (p : Cidr) → length (chosen_at table router p) ≤ 16 → sum_by most_by (main_rows_at routers tables table router p) ≤ 17 * count_of_base + 16
  prefix_sum p few = omega (arith, nearer_sum most_by (base_side tables router p) (bgp_side routers table router p), base_sum p, bgp_sum p few)

  -- ---- all ways

  module _ (rows_are : mains_of mains router ≡ main_table routers tables table router) (valid : All (λ (row : MainRow). IsCidr row.prefix.base row.prefix.len) (mains_of mains router))
      (few : (p : Cidr) → length (chosen_at table router p) ≤ 16) where
    abbrev all_prefixes : List Cidr
    all_prefixes = map (λ (row : MainRow). row.prefix) (mains_of mains router)

    -- a row of the longest prefix
    abbrev leads : MainRow → Bool
    leads m = is_longest all_prefixes addr m.prefix

    -- how many ways those of a prefix have at most
    abbrev weight : Cidr → ℕ
    weight p = sum_by (counted leads most_by) (main_rows_at routers tables table router p)

    -- the prefixes of which there may be rows
    abbrev named : List Cidr
    named =
        map (λ row. row.prefix) (rows_of tables router)
        ++ (map (λ row. row.prefix) (slice_index_or table router []) ++ option_map_or (λ p. map (λ a. a.prefix) p.aggregates) (process_of routers router) [])

    by_places : length (alternatives routers tables table mains router addr) ≤ sum_by (counted leads most_by) (mains_of mains router)
    unfolding longest
    by_places =
        let rows = mains_of mains router in
        let places = places_map (λ (row : MainRow). row.prefix) (is_longest all_prefixes addr) 0 rows in
        let same = ap (λ (ks : List ℕ). length (flat_map ways_at ks)) places in
        omega (arith, same, made_few rows ways_by most_by (λ k row. few_by_row k row row.from) leads)
      where
        ways_by : ℕ → MainRow → List Alternative
        ways_by place row = ways_of routers tables table mains router addr place row row.from

        ways_at : ℕ → List Alternative
        ways_at place = option_map_or (ways_by place) (slice_get (mains_of mains router) place) []

    in_table : (p : Cidr) (m : MainRow) → In p (distinct named) → In m (main_rows_at routers tables table router p) → In m (main_table routers tables table router)
    unfolding main_table
    in_table p m i j = in_flat_map (main_rows_at routers tables table router) (prefixes_at routers tables table router) p m (in_its_order prefix_cmp (distinct named) p i) j

    -- a prefix that counts is the longest of those that the rows have
    record IsLongest (p : Cidr) : Type 0 where
      among : In p all_prefixes
      cidr : IsCidr p.base p.len
      is : is_longest all_prefixes addr p ≡ true

    longest_by : (p : Cidr) → In p (distinct named) → 0 < weight p → IsLongest p
    longest_by p i counts =
        let rows = mains_of mains router in
        let found = some_counts (counted leads most_by) (main_rows_at routers tables table router p) counts in
        let own : found.0.prefix ≡ p = has_prefix routers tables table router p found.0 found.1 in
        let here : In found.0 rows = subst (In found.0) (sym rows_are) (in_table p found.0 i found.1) in
        subst IsLongest own (record {
          among = in_map (λ (row : MainRow). row.prefix) rows found.0 here;
          cidr = all_in (λ (row : MainRow). IsCidr row.prefix.base row.prefix.len) rows valid found.0 here;
          is = counted_passes (leads found.0) (most_by found.0) found.2;
        })

    are_one : AreOne weight (distinct named)
    are_one p q i j counts_p counts_q =
        let a = longest_by p i counts_p in
        let b = longest_by q j counts_q in
        one_longest all_prefixes addr p q a.among b.among a.cidr b.cidr a.is b.is

    most_weight : (p : Cidr) → weight p ≤ 17 * count_of_base + 16
    most_weight p =
        let rows = main_rows_at routers tables table router p in
        omega (arith, sum_by-le-sum_by (counted leads most_by) most_by rows (λ m. counted_upto (leads m) (most_by m)), prefix_sum p (few p))

    pub few_alternatives : length (alternatives routers tables table mains router addr) ≤ 17 * count_of_base + 16
    unfolding main_table
    few_alternatives =
        let sorted = in_order prefix_cmp (distinct named) in
        let whole : sum_by (counted leads most_by) (mains_of mains router) ≡ sum_by (counted leads most_by) (flat_map (main_rows_at routers tables table router) sorted) =
        ap (λ (rows : List MainRow). sum_by (counted leads most_by) rows) rows_are in
        let parts : sum_by (counted leads most_by) (flat_map (main_rows_at routers tables table router) sorted) ≡ sum_by weight sorted =
        sum_of_parts (counted leads most_by) (main_rows_at routers tables table router) sorted in
        omega (arith, by_places, whole, parts, sum_in_order weight prefix_cmp (distinct named), most_of_one weight (17 * count_of_base + 16) most_weight named are_one)

-- ---- a state

module _ (s : StateView) (is : IsState s) (count : element_count s.routers ≤ ROUTER_LIMIT * LINE_LIMIT) where
  -- a router has no more base rows than the network has elements
  few_base : (router : ℕ) → length (base_rows s router) ≤ element_count s.routers
  few_base router = by_router (slice_get s.routers router) refl
    where
      by_router : (o : Option ConfigView) → slice_get s.routers router ≡ o → length (base_rows s router) ≤ element_count s.routers
      by_router None none = let same = ap (λ (rows : List BaseRow). length rows) (base_rows_none s is router none) in omega (arith, same)
      by_router (Some c) at =
          let same = ap (λ (rows : List BaseRow). length rows) (base_rows_at s is router c at) in
          omega (arith, same, few_rows c (formed_at s.routers is.valid.each router c at), few_in_network s.routers router c at)

  -- a router has no more alternatives for an address than can be numbered
  pub few_ways : (router addr : ℕ) → router < length s.routers → AreByPrefix (λ (row : MainRow). row.prefix) (main_rows s router) → length (alternatives s.routers s.base s.bgp s.main router addr) < 2 ^ 32
  few_ways router addr lt ordered =
      let few = few_alternatives s.routers s.base s.bgp s.main router addr (main_rows_are s is router lt) ordered.valid (λ p. few_chosen s is router p) in
      omega (arith, few, few_base router, count)
