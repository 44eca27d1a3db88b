use Rattle.std.proofs.Common.{[], map, drop}
use Rattle.std.specs.List.{flat_map}
use Rattle.nc_types.specs.Config.{config_view}
use Rattle.nc_network.specs.Judged.{prefixes_in}
use Rattle.nc_network.proofs.Counted.{IsLeft}
use Rattle.nc_network.proofs.limits.many_prefixes.Given as goal

abbrev pub invariant-items : goal.invariant-items
invariant-items l = IsLeft [] l.seen.keys (flat_map prefixes_in (drop l.item-index (map config_view l.routers))) (flat_map prefixes_in (map config_view l.routers))
