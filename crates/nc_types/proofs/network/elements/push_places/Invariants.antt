use Rattle.std.proofs.Common.{◌≡◌, ◌++◌}
use Rattle.nc_types.specs.Tables.{places_in}
use Rattle.nc_types.proofs.network.elements.push_places.Given as goal

abbrev pub invariant-places : goal.invariant-places
invariant-places l = l.places.items ≡ l.fn.places.items ++ places_in l.router.0 l.place
