use Rattle.std.proofs.Common.{◌≡◌, ◌++◌, map, drop}
use Rattle.nc_types.specs.Config.{config_view}
use Rattle.nc_types.specs.Tables.{places_from}
use Rattle.nc_types.proofs.network.elements.element_places.Given as goal

-- the places so far and those of the routers that are left are all places
abbrev pub invariant-routers : goal.invariant-routers
invariant-routers l = l.places.items ++ places_from l.router (map config_view (drop l.router l.routers)) ≡ places_from 0 (map config_view l.routers)
