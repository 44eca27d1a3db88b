use Rattle.std.proofs.Common.{◌≡◌, ◌≤◌, [], length, drop, slice_index_or}
use Rattle.nc_types.specs.Cidr.{Cidr}
use Rattle.nc_main_rib.specs.Sides.{active_from, place_by}
use Rattle.nc_main_rib.proofs.discards.active_places.Given as goal

abbrev pub invariant-aggregates : goal.invariant-aggregates
invariant-aggregates l = record {
  within : l.place ≤ length l.aggregates;
  -- the first of each prefix among the aggregates from the place on
  places : (prefix : Cidr) → place_by l.places prefix ≡ active_from (slice_index_or l.table l.router.0 []) prefix l.place (drop l.place l.aggregates);
}

abbrev pub decreases-aggregates : goal.decreases-aggregates
decreases-aggregates l = l.place
