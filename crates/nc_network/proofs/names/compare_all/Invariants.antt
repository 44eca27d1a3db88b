use Rattle.std.proofs.Common.{◌≡◌, ◌+◌, map, drop}
use Rattle.nc_types.specs.Config.{config_view}
use Rattle.nc_types.specs.Joining.{numbered_from, same_name}
use Rattle.nc_network.specs.Steps.{merge, first_of_all}
use Rattle.nc_network.proofs.names.compare_all.Given as goal

abbrev pub invariant-later : goal.invariant-later
invariant-later l =
    merge l.found (first_of_all (same_name (record { router = l.router; config = config_view l.config })) (numbered_from (l.router + 1 + l.step) (drop l.step (map config_view l.later))))
    ≡ merge l.fn.found (first_of_all (same_name (record { router = l.router; config = config_view l.config })) (numbered_from (l.router + 1) (map config_view l.later)))
