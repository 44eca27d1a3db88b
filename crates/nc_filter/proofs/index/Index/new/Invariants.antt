use Rattle.std.proofs.Common.{◌≡◌, ◌≤◌, Some, length}
use Rattle.std.specs.Prelude.{slice_get}
use Rattle.nc_types.specs.declared.filters.FilterEntry.{FilterEntry}
use Rattle.nc_filter.specs.declared.spots.Spot.{Spot}
use Rattle.nc_filter.specs.Spots.{number_of, place_in, first_from, same_spot, spots_of}
use Rattle.nc_filter.proofs.Classes.{spot_is}
use Rattle.nc_filter.proofs.Spotting.{IsNextFrom}
use Rattle.nc_filter.proofs.index.Index.new.Given as goal

-- the chains of the entries from a place on
abbrev pub invariant-entries : goal.invariant-entries
invariant-entries l = record {
  within : l.place ≤ length l.entries;
  size : l.count ≡ length l.entries;
  count : length l.next.items ≡ length l.entries;
  first : (s : Spot) → place_in l.first s ≡ first_from s l.place (spots_of l.entries);
  list : (d : FilterEntry) → slice_get l.entries l.place ≡ Some d → l.list ≡ number_of l.entries d.list;
  next : IsNextFrom same_spot spot_is (spots_of l.entries) l.place l.next.items;
}

abbrev pub decreases-entries : goal.decreases-entries
decreases-entries l = l.place
