use Rattle.std.proofs.Common.{◌≡◌, map, drop}
use Rattle.nc_types.specs.Config.{config_view}
use Rattle.nc_types.specs.Joining.{earliest, numbered_from, with_later, same_name, same_names}
use Rattle.nc_network.specs.Steps.{merge}
use Rattle.nc_network.proofs.names.name_clash.Given as goal

abbrev pub invariant-routers : goal.invariant-routers
invariant-routers l =
    merge l.found (earliest (with_later same_name (numbered_from l.router (drop l.router (map config_view l.routers))))) ≡ earliest (same_names (map config_view l.routers))
