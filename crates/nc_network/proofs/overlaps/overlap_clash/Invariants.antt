use Rattle.std.proofs.Common.{◌≡◌, map, drop}
use Rattle.nc_types.specs.Config.{config_view}
use Rattle.nc_types.specs.Joining.{earliest, numbered_from, with_later, overlapping, overlaps, used_by}
use Rattle.nc_network.specs.Steps.{merge, first_of_all}
use Rattle.nc_network.proofs.overlaps.overlap_clash.Given as goal

abbrev pub invariant-routers : goal.invariant-routers
invariant-routers l =
    merge l.found (first_of_all (λ n. with_later overlapping (used_by n)) (numbered_from l.router (drop l.router (map config_view l.routers)))) ≡ earliest (overlaps (map config_view l.routers))
