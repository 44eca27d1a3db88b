use Rattle.std.proofs.Common.{map}
use Rattle.nc_types.specs.Config.{config_view}
use Rattle.nc_types.specs.Tables.{AreAllOwners}
use Rattle.nc_types.proofs.network.owners.line_owners.Given as goal

abbrev pub invariant-routers : goal.invariant-routers
invariant-routers l = AreAllOwners (map config_view l.routers) l.config-index l.owners.items
