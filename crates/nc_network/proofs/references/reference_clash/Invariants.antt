use Rattle.std.proofs.Common.{◌≡◌, map, drop}
use Rattle.nc_types.specs.Config.{config_view}
use Rattle.nc_types.specs.Joining.{earliest, numbered_from, undefined, undefined_in}
use Rattle.nc_network.specs.Steps.{merge, first_of_all}
use Rattle.nc_network.proofs.references.reference_clash.Given as goal

abbrev pub invariant-routers : goal.invariant-routers
invariant-routers l =
    merge l.found (first_of_all undefined_in (numbered_from l.router (drop l.router (map config_view l.routers)))) ≡ earliest (undefined (map config_view l.routers))
