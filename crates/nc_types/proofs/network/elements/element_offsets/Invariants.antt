use Rattle.std.proofs.Common.{◌≡◌, ◌+◌, ◌++◌, map, drop}
use Rattle.nc_types.specs.Config.{config_view}
use Rattle.nc_types.specs.Network.{element_count}
use Rattle.nc_types.specs.Tables.{offsets_from}
use Rattle.nc_types.proofs.network.elements.element_offsets.Given as goal

-- the numbers so far and those of the routers that are left are all numbers
abbrev pub invariant-routers : goal.invariant-routers
invariant-routers l = record {
  offsets : l.offsets.items ++ offsets_from l.first (drop l.config-index (map config_view l.routers)) ≡ offsets_from 0 (map config_view l.routers);
  count : l.first + element_count (drop l.config-index (map config_view l.routers)) ≡ element_count (map config_view l.routers);
}
