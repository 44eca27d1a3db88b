-- Where a list is gone through for a packet.
use Rattle.std.specs.Prelude.{◌≡◌, ℕ, List}
use Rattle.nc_types.specs.declared.addr.Addr.{Addr}
use Rattle.nc_types.specs.declared.filters.FilterEntry.{FilterEntry}
use Rattle.nc_filter.specs.Spots.{ahead, spots_of}
use Rattle.nc_filter.specs.declared.spots.Class.TheVariants.{Source, Target, Other}
use Rattle.nc_filter.specs.declared.walks.Ahead.{Ahead}

-- the next entries from a place on that are in the list, and come from the packet's source alone, or go to its destination alone, or have several of both
pub record AreAhead (entries : List FilterEntry) (list : ℕ) (from to : Addr) (place : ℕ) (a : Ahead) : Type 0 where
  pub source : a.source ≡ ahead (record { list = list; class = Source from }) place (spots_of entries)
  pub target : a.target ≡ ahead (record { list = list; class = Target to }) place (spots_of entries)
  pub other : a.other ≡ ahead (record { list = list; class = Other }) place (spots_of entries)
