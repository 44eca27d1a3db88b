-- Reach and forwarding of all routers at once, by levels: those from which an address is reached over so many hops. Each level takes
-- one pass over the routers, so that thirty hops are thirty passes.
use Rattle.std.specs.Prelude.{ℕ, zero, suc, Bool, false, ◌||◌, List, [], length, map, slice_index_or}
use Rattle.std.specs.List.{list_any, range_with_len}
use Rattle.nc_types.specs.Config.{ConfigView}
use Rattle.nc_tables.specs.declared.base.BaseRow.{BaseRow}
use Rattle.nc_tables.specs.declared.bgp.MainRow.{MainRow}
use Rattle.nc_tables.specs.Reach.{next_places, owns}
use Rattle.nc_tables.specs.Rounds.{BgpRowView}
use Rattle.nc_tables.specs.Forwarding.{Alternative, arrives_by, some_way, each_way, alternatives}

-- a level has a flag for each router
abbrev pub is_in : List Bool → ℕ → Bool
is_in level router = slice_index_or level router false

-- the routers that pass a test
abbrev pub level_of : List ConfigView → (ℕ → Bool) → List Bool
level_of routers test = map test (range_with_len 0 (length routers))

module _ (routers : List ConfigView) (tables : List (List BaseRow)) where
  -- the owner, and the routers with a hit that leads into the level
  abbrev pub reach_from : ℕ → List Bool → List Bool
  reach_from addr level = level_of routers (λ router. owns routers router addr || list_any (λ next. is_in level next.router) (next_places routers tables router addr))

  -- without a hop the owner alone, and with each hop one level more
  unfoldable pub reach_level : ℕ → ℕ → List Bool
  reach_level addr zero = level_of routers (λ router. owns routers router addr)
  reach_level addr (suc hops) = reach_from addr (reach_level addr hops)

module _ (routers : List ConfigView) (tables : List (List BaseRow)) (table : List (List BgpRowView)) (mains : List (List MainRow)) where
  -- the owner, and the routers whose ways, some or each, deliver a packet or lead into the level
  abbrev pub trace_from : ((Alternative → Bool) → List Alternative → Bool) → ℕ → List Bool → List Bool
  trace_from ways_pass addr level =
      level_of routers (λ router. owns routers router addr || ways_pass (λ way. arrives_by (is_in level) way.outcome) (alternatives routers tables table mains router addr))

  unfoldable pub trace_level : ℕ → ℕ → List Bool
  trace_level addr zero = trace_from some_way addr []
  trace_level addr (suc hops) = trace_from some_way addr (trace_level addr hops)

  unfoldable pub all_trace_level : ℕ → ℕ → List Bool
  all_trace_level addr zero = trace_from each_way addr []
  all_trace_level addr (suc hops) = trace_from each_way addr (all_trace_level addr hops)
