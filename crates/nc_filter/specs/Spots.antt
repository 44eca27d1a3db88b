-- Where the entries of access lists are found.
use Rattle.std.specs.Prelude.{◌≡◌, ℕ, ◌+◌, ◌==◌, Bool, if◌then◌else◌, List, drop, length, map, Option, Some, position, slice_get}
use Rattle.std.specs.HashMap.{HashMap, get}
use Rattle.std.specs.List.{position_from}
use Rattle.std.specs.Option.{unwrap_or}
use Rattle.nc_types.specs.declared.filters.FilterEntry.{FilterEntry}
use Rattle.nc_tables.specs.Filters.{is_of}
use Rattle.nc_filter.specs.contracts.spots.SpotPartialEq.TheImpl.{eq-value}
use Rattle.nc_filter.specs.declared.index.Index.{Index}
use Rattle.nc_filter.specs.declared.spots.Class.{Class}
use Rattle.nc_filter.specs.declared.spots.Class.TheVariants.{Source, Target, Other, Never}
use Rattle.nc_filter.specs.declared.spots.Spot.{Spot}

-- the class of an entry: by its one source, where its wildcard is 0, else by its one destination, else by neither; one of another protocol than `ip` decides on no packet
abbrev pub class_of : FilterEntry → Class
class_of e = if e.ip then (if e.from.wild.0 == 0 then Source e.from.addr else (if e.to.wild.0 == 0 then Target e.to.addr else Other)) else Never

-- the number of a list among a router's entries: the place of its first entry
abbrev pub number_of : List FilterEntry → List ℕ → ℕ
number_of entries list = unwrap_or (position (is_of list) entries) (length entries)

-- the spot of an entry among a router's
abbrev pub spot_of : List FilterEntry → FilterEntry → Spot
spot_of entries e = record { list = number_of entries e.list; class = class_of e }

abbrev pub spots_of : List FilterEntry → List Spot
spots_of entries = map (spot_of entries) entries

-- two spots are one
abbrev pub same_spot : Spot → Spot → Bool
same_spot s t = eq-value.it s t

-- the place that is kept for a spot
abbrev pub place_in : {S : Type 0} → HashMap Spot ℕ S → Spot → Option ℕ
place_in first s = get same_spot first s

-- the place of the first of a spot, from a place on
abbrev pub first_from : Spot → ℕ → List Spot → Option ℕ
first_from s from spots = position_from (same_spot s) from (drop from spots)

-- the same, or the end where there is none
abbrev pub ahead : Spot → ℕ → List Spot → ℕ
ahead s from spots = unwrap_or (first_from s from spots) (length spots)

-- of each spot the first entry, and of each entry the next one of its spot
pub record IsIndexed (entries : List FilterEntry) (index : Index) : Type 0 where
  pub first : (s : Spot) → place_in index.first s ≡ first_from s 0 (spots_of entries)
  pub next : (k : ℕ) (s : Spot) → slice_get (spots_of entries) k ≡ Some s → slice_get index.next.items k ≡ Some (ahead s (k + 1) (spots_of entries))
