-- The main table of a router: of each prefix the rows of its base table or those of BGP.
use Rattle.std.specs.Prelude.{ℕ, ◌+◌, ◌^◌, ◌<◌, ◌&&◌, nat_le, List, [], ◌∷◌, ◌++◌, length, map, Some, None, slice_index_or, if◌then◌else◌}
use Rattle.std.specs.List.{flat_map, range_with_len}
use Rattle.std.specs.Option.{option_map_or}
use Rattle.nc_types.specs.Cidr.{Cidr}
use Rattle.nc_types.specs.Config.{ConfigView}
use Rattle.nc_tables.specs.declared.TheConstants.{LOCAL_DISTANCE}
use Rattle.nc_tables.specs.declared.base.BaseRow.{BaseRow}
use Rattle.nc_tables.specs.declared.bgp.Chosen.{Chosen}
use Rattle.nc_tables.specs.declared.bgp.MainRow.{MainRow}
use Rattle.nc_tables.specs.declared.bgp.MainFrom.TheVariants.{Base, Bgp, Discard}
use Rattle.nc_tables.specs.Base.{same_prefix, prefix_cmp}
use Rattle.nc_tables.specs.Longest.{AreByPrefix}
use Rattle.nc_tables.specs.Reach.{rows_of}
use Rattle.nc_tables.specs.Sessions.{first_of, process_of}
use Rattle.nc_tables.specs.Choice.{is_learnt}
use Rattle.nc_tables.specs.Distances.{distance_of}
use Rattle.nc_tables.specs.Rounds.{BgpRowView, chosen_at, is_active, distinct, made_from}
use Rattle.nc_tables.specs.Order.{in_order}

-- main rows of a router in order of their prefixes, and no more than places can number
pub record AreMainRows (rows : List MainRow) : Type 0 where
  pub by_prefix : AreByPrefix (λ row. row.prefix) rows
  pub few : length rows < 2 ^ 32

-- the chosen rows of a prefix whose best was learnt
abbrev pub learnt_rows : Cidr → List Chosen → List MainRow
learnt_rows prefix [] = []
learnt_rows prefix (best ∷ others) =
    if is_learnt best.from then map (λ place. record { prefix = prefix; distance = distance_of best; from = Bgp place }) (range_with_len 0 (length others + 1)) else []

-- the base rows, where there are some and BGP has nothing nearer
abbrev pub nearer : List MainRow → List MainRow → List MainRow
nearer [] bgp = bgp
nearer (row ∷ rows) [] = row ∷ rows
nearer (row ∷ rows) (other ∷ others) = if nat_le row.distance other.distance then row ∷ rows else other ∷ others

module _ (tables : List (List BaseRow)) where
  -- what the base table has of a prefix
  abbrev pub base_side : ℕ → Cidr → List MainRow
  base_side router prefix =
      made_from (λ place row. if same_prefix row.prefix prefix then Some (record { prefix = prefix; distance = row.distance; from = Base place }) else None)
      0 (rows_of tables router)

module _ (routers : List ConfigView) (table : List (List BgpRowView)) where
  -- an active aggregate discards
  abbrev pub discards : ℕ → Cidr → List MainRow
  discards router prefix =
      option_map_or (λ p. made_from (λ place a.
      if same_prefix a.prefix prefix && is_active table router a then Some (record { prefix = prefix; distance = LOCAL_DISTANCE; from = Discard place }) else None) 0 p.aggregates)
      (process_of routers router) []

  -- what BGP has of a prefix
  abbrev pub bgp_side : ℕ → Cidr → List MainRow
  bgp_side router prefix = option_map_or (λ row. row ∷ []) (first_of (discards router prefix)) (learnt_rows prefix (chosen_at table router prefix))

module _ (routers : List ConfigView) (tables : List (List BaseRow)) (table : List (List BgpRowView)) where
  -- all prefixes that a router may have rows for, in order: those of its base table, of its BGP table and of its aggregates
  abbrev pub prefixes_at : ℕ → List Cidr
  prefixes_at router =
      in_order prefix_cmp (distinct (map (λ row. row.prefix) (rows_of tables router)
      ++ (map (λ row. row.prefix) (slice_index_or table router [])
      ++ option_map_or (λ p. map (λ a. a.prefix) p.aggregates) (process_of routers router) [])))

  -- the main rows of a prefix at a router
  abbrev pub main_rows_at : ℕ → Cidr → List MainRow
  main_rows_at router prefix = nearer (base_side tables router prefix) (bgp_side routers table router prefix)

  -- the main table of a router, by prefix, then as in the table from which the rows are
  unfoldable pub main_table : ℕ → List MainRow
  main_table router = flat_map (main_rows_at router) (prefixes_at router)

  -- the main tables of all routers
  abbrev pub main_tables : List (List MainRow)
  main_tables = map main_table (range_with_len 0 (length routers))
