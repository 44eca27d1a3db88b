-- The ways out of a router that are left, where some of its main rows are done.
use Rattle.std.specs.Prelude.{ℕ, ◌-◌, ◌^◌, ◌<◌, List, [], ◌++◌, map, filter, Some, slice_get}
use Rattle.std.specs.List.{flat_map, range_with_len}
use Rattle.std.specs.Option.{option_map_or}
use Rattle.nc_tables.specs.declared.longest.Rows.{Rows}
use Rattle.nc_tables.specs.Reach.{is_hit, leads_to}
use Rattle.nc_tables.specs.State.{StateView}
use Rattle.nc_tables.specs.Forwarding.{Alternative, going, mains_of, ways_of}
use Rattle.nc_trace.specs.declared.left.Left.{Left}

-- the places of rows that stand side by side
abbrev pub places : Rows → List ℕ
places rows = range_with_len rows.from (rows.to - rows.from)

module _ (s : StateView) (router : ℕ) where
  -- the way of a BGP row by a base row toward its next hop
  abbrev pub way_by : ℕ → ℕ → ℕ → Alternative
  way_by main hop hit = record { main = main; base = Some hit; outcome = going (leads_to s.routers s.base router hop hit) }

  -- those by the base rows that are left
  abbrev pub hit_ways : Left → List Alternative
  hit_ways left = map (way_by left.main left.hop.0) (filter (is_hit s.base router) (places left.hits))

  -- the ways of the main row at a place
  abbrev pub ways_at : ℕ → ℕ → List Alternative
  ways_at addr main = option_map_or (λ row. ways_of s.routers s.base s.bgp s.main router addr main row row.from) (slice_get (mains_of s.main router) main) []

  -- all that are left
  abbrev pub left_ways : ℕ → Left → List Alternative
  left_ways addr left = hit_ways left ++ flat_map (ways_at addr) (places left.mains)

-- places are numbers of 32 bits
pub record IsLeft (left : Left) : Type 0 where
  pub hits : left.hits.to < 2 ^ 32
  pub mains : left.mains.to < 2 ^ 32
