use Rattle.std.proofs.Common.{◌≡◌, ◌+◌, ◌≤◌, map, drop}
use Rattle.std.specs.List.{sum_by}
use Rattle.nc_network.specs.declared.TheConstants.{NEIGHBOR_LIMIT}
use Rattle.nc_types.specs.Config.{config_view}
use Rattle.nc_network.specs.Judged.{neighbors_in, neighbor_count}
use Rattle.nc_network.proofs.limits.many_neighbors.Given as goal

abbrev pub invariant-items : goal.invariant-items
invariant-items l = record {
  within : l.count ≤ NEIGHBOR_LIMIT;
  rest : l.count + sum_by neighbors_in (drop l.item-index (map config_view l.routers)) ≡ neighbor_count (map config_view l.routers);
}
