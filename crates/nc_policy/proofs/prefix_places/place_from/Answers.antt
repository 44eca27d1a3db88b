use Rattle.std.proofs.Common.{rules}
use Rattle.std.specs.Ordering.{is_lt}
use Rattle.std.proofs.lemmas.List.Sorted.{IsPartitionPoint-from_clause}
use Rattle.nc_policy.specs.declared.prefix_places.PlacedPrefix.{PlacedPrefix}
use Rattle.nc_tables.specs.Base.{prefix_cmp}
use Rattle.nc_policy.proofs.KeyOrder.{below_first}
use Rattle.nc_policy.proofs.SpotOrder.{prefixes}
use Rattle.nc_policy.proofs.prefix_places.place_from.Goals as goal

pub returns : goal.returns
returns c =
    let items = c.args.items.now in
    let prefix = c.args.prefix in
    IsPartitionPoint-from_clause (λ (x : PlacedPrefix). is_lt (prefix_cmp x.prefix prefix)) items c.partition_point.result c.partition_point.ensures.partitioned (below_first prefixes prefix items c.requires) (λ a r q k. search rules)
