-- The main rows of each router of a network can be numbered: of its elements there are few, and of no table has it more rows.
use Rattle.std.proofs.Common.{◌≡◌, ℕ, ◌*◌, ◌^◌, ◌<◌, ◌≤◌, List, [], ◌∷◌, ◌++◌, length, map, get_or, All, Option, Some, None, sym, ap, subst, arith}
use Rattle.std.specs.List.{flat_map, slice_index_or}
use Rattle.std.specs.Option.{option_map_or, option_and_then}
use Rattle.std.proofs.lemmas.List.{length-append, length-map, get_or-map}
use Rattle.std.proofs.lemmas.List.Elements.{All-head, All-tail}
use Rattle.std.proofs.lemmas.List.Sums.{get_or-le-sum_by, sum_by-cons}
use Rattle.std.proofs.lemmas.Option.{slice_get-get_or}
use Rattle.nc_types.specs.declared.TheConstants.{ROUTER_LIMIT, LINE_LIMIT}
use Rattle.nc_types.specs.declared.config.AggregateStatement.{AggregateStatement}
use Rattle.nc_types.specs.declared.config.NetworkStatement.{NetworkStatement}
use Rattle.nc_types.specs.declared.config.Neighbor.{Neighbor}
use Rattle.nc_types.specs.Config.{ConfigView, ProcessView}
use Rattle.nc_types.specs.Joining.{IsValid}
use Rattle.nc_types.specs.Network.{element_count}
use Rattle.nc_types.specs.WellFormed.{IsWellFormed, process_places}
use Rattle.nc_types.proofs.Few.{few_parts}
use Rattle.nc_tables.specs.declared.bgp.SessionRow.{SessionRow}
use Rattle.nc_tables.specs.declared.bgp.MainRow.{MainRow}
use Rattle.nc_tables.specs.Base.{base_table, base_tables, prefix_cmp}
use Rattle.nc_tables.specs.Main.{main_tables}
use Rattle.nc_tables.specs.Sessions.{process_of}
use Rattle.nc_tables.specs.Rounds.{BgpRowView, AreBgpRows, distinct, prefixes_in, prefixes, after}
use Rattle.nc_tables.proofs.Ordered.{length_in_order}
use Rattle.nc_tables.proofs.RowCount.{few_rows}
use Rattle.nc_main_rib.proofs.Counting.{distinct_count, few_main, own_prefixes}
use Rattle.nc_round.proofs.Settled.{after_few}

-- ---- one router

own_few : (o : Option ProcessView) → length (option_map_or (λ p. map (λ n. n.prefix) p.networks ++ map (λ a. a.prefix) p.aggregates) o []) ≤ length (option_map_or process_places o [])
own_few None = omega arith
own_few (Some p) =
    omega (
      arith,
      length-append (map (λ (n : NetworkStatement). n.prefix) p.networks) (map (λ (a : AggregateStatement). a.prefix) p.aggregates),
      length-map p.networks (λ (n : NetworkStatement). n.prefix),
      length-map p.aggregates (λ (a : AggregateStatement). a.prefix),
      length-append (map (λ (n : Neighbor). n.element) p.neighbors) (map (λ (n : NetworkStatement). n.element) p.networks ++ map (λ (a : AggregateStatement). a.element) p.aggregates),
      length-append (map (λ (n : NetworkStatement). n.element) p.networks) (map (λ (a : AggregateStatement). a.element) p.aggregates),
      length-map p.networks (λ (n : NetworkStatement). n.element),
      length-map p.aggregates (λ (a : AggregateStatement). a.element),
    )

aggregates_few : (o : Option ProcessView) → length (option_map_or (λ (p : ProcessView). map (λ (a : AggregateStatement). a.prefix) p.aggregates) o []) ≤ length (option_map_or (λ p. map (λ n. n.prefix) p.networks ++ map (λ a. a.prefix) p.aggregates) o [])
aggregates_few None = omega arith
aggregates_few (Some p) = omega (arith, length-append (map (λ (n : NetworkStatement). n.prefix) p.networks) (map (λ (a : AggregateStatement). a.prefix) p.aggregates))

begun_few : (c : ConfigView) → IsWellFormed c → length (prefixes_in c) ≤ length c.elements
begun_few c formed = omega (arith, own_few c.process, few_parts c formed)

-- ---- all routers

all_begun : (cs : List ConfigView) → All IsWellFormed cs → length (flat_map prefixes_in cs) ≤ element_count cs
all_begun [] formed = omega arith
all_begun (c ∷ cs) formed =
    omega (
      arith,
      length-append (prefixes_in c) (flat_map prefixes_in cs),
      begun_few c (All-head IsWellFormed c cs formed),
      all_begun cs (All-tail IsWellFormed c cs formed),
      sum_by-cons (λ (x : ConfigView). length x.elements) c cs,
    )

module _ (routers : List ConfigView) (valid : IsValid routers) (few : element_count routers ≤ ROUTER_LIMIT * LINE_LIMIT) where
  prefixes_few : length (prefixes routers) ≤ element_count routers
  prefixes_few = omega (arith, length_in_order prefix_cmp (distinct (flat_map prefixes_in routers)), distinct_count (flat_map prefixes_in routers), all_begun routers valid.each)

  module _ (router : ℕ) (lt : router < length routers) where
    one_few : (d : ConfigView) → length (get_or routers router d).elements ≤ element_count routers
    one_few d = get_or-le-sum_by (λ (c : ConfigView). length c.elements) routers router d lt

    base_few : (d : ConfigView) → length (slice_index_or (base_tables routers) router []) ≤ element_count routers
    base_few d =
        let rows : length (get_or (base_tables routers) router []) ≡ length (base_table (get_or routers router d)) = ap length (get_or-map base_table routers router d [] lt) in
        omega (arith, rows, few_rows (get_or routers router d) (valid.each router d lt), one_few d)

    discards_few : (d : ConfigView) → length (own_prefixes routers router) ≤ element_count routers
    discards_few d =
        let c = get_or routers router d in
        let own : process_of routers router ≡ c.process = ap (option_and_then (λ (x : ConfigView). x.process)) (slice_get-get_or routers router d lt) in
        let count : length (own_prefixes routers router) ≡ length (option_map_or (λ (p : ProcessView). map (λ (a : AggregateStatement). a.prefix) p.aggregates) c.process []) =
        ap (λ (o : Option ProcessView). length (option_map_or (λ (p : ProcessView). map (λ (a : AggregateStatement). a.prefix) p.aggregates) o [])) own in
        omega (arith, count, aggregates_few c.process, begun_few c (valid.each router d lt), one_few d)

    some_router : ConfigView
    some_router = on routers lt
      where
        on : (cs : List ConfigView) → router < length cs → ConfigView
        on [] less = absurd (omega arith)
        on (c ∷ cs) less = c

  -- the main rows of each router can be numbered
  pub main_few : (sessions : List (List SessionRow)) (table : List (List BgpRowView)) (k : ℕ) → table ≡ after routers (base_tables routers) sessions k → All AreBgpRows table
      → All (λ (rows : List MainRow). length rows < 2 ^ 32) (main_tables routers (base_tables routers) table)
  main_few sessions table k made rows = few_main routers (base_tables routers) table rows (λ router lt.
      let d = some_router router lt in
      let bgp : length (slice_index_or table router []) ≤ length (prefixes routers) =
      subst (λ (t : List (List BgpRowView)). length (get_or t router []) ≤ length (prefixes routers)) (sym made) (after_few routers (base_tables routers) sessions k router) in
      omega (arith, few, bgp, prefixes_few, base_few router lt d, discards_few router lt d))
