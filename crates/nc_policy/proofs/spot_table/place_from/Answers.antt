use Rattle.std.proofs.Common.{rules}
use Rattle.std.specs.Ordering.{is_lt}
use Rattle.std.proofs.lemmas.List.Sorted.{IsPartitionPoint-from_clause}
use Rattle.nc_policy.specs.declared.spot_table.Placed.{Placed}
use Rattle.nc_policy.specs.Placing.{spot_cmp}
use Rattle.nc_policy.proofs.KeyOrder.{below_first}
use Rattle.nc_policy.proofs.SpotOrder.{spots}
use Rattle.nc_policy.proofs.spot_table.place_from.Goals as goal

pub returns : goal.returns
returns c =
    let items = c.args.items.now in
    let spot = c.args.spot in
    IsPartitionPoint-from_clause (λ (x : Placed). is_lt (spot_cmp x.spot spot)) items c.partition_point.result c.partition_point.ensures.partitioned (below_first spots spot items c.requires) (λ a r q k. search rules)
