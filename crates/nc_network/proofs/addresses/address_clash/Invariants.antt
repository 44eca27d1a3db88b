use Rattle.std.proofs.Common.{◌≡◌, ◌≤◌, map, drop, length}
use Rattle.std.specs.List.{flat_map}
use Rattle.nc_types.specs.Config.{config_view}
use Rattle.nc_types.specs.Joining.{earliest, with_later, numbered_from, used_by}
use Rattle.nc_network.specs.Steps.{Heads, by_address, router_addresses}
use Rattle.nc_network.proofs.addresses.address_clash.Given as goal

abbrev pub invariant-routers : goal.invariant-routers
invariant-routers l = record {
  within : l.at ≤ length l.routers;
  heads : Heads by_address l.heads.entries (flat_map used_by (numbered_from l.at (drop l.at (map config_view l.routers))));
  found : l.found ≡ earliest (with_later router_addresses (numbered_from l.at (drop l.at (map config_view l.routers))));
}

abbrev pub decreases-routers : goal.decreases-routers
decreases-routers l = l.at
