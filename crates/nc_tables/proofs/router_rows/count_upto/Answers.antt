use Rattle.std.proofs.Common.{◌≡◌, true, rules}
use Rattle.std.specs.Ordering.{is_le}
use Rattle.std.proofs.lemmas.List.Sorted.{IsPartitionPoint-from_clause}
use Rattle.nc_tables.specs.declared.bgp.BgpRow.{BgpRow}
use Rattle.nc_tables.specs.Base.{prefix_cmp}
use Rattle.nc_tables.proofs.BgpRows.{by_prefix}
use Rattle.nc_tables.proofs.SideBySide.{rises, upto_first}
use Rattle.nc_tables.proofs.Spread.{within_first}
use Rattle.nc_tables.proofs.router_rows.count_upto.Goals as goal

pub returns-in-Less-clause-upto : goal.returns-in-Less-clause-upto
returns-in-Less-clause-upto c =
    let rows = c.args.own.now in
    let point = IsPartitionPoint-from_clause (λ (row : BgpRow). is_le (prefix_cmp row.prefix c.args.prefix)) rows c.partition_point.result c.partition_point.ensures.partitioned (upto_first (λ (row : BgpRow). row.prefix) rows (rises (λ (row : BgpRow). row.prefix) rows (by_prefix rows c.requires)) c.args.prefix) (λ a r q k. search rules) in
    within_first (λ (row : BgpRow). is_le (prefix_cmp row.prefix c.args.prefix) ≡ true) rows c.partition_point.result c.partition_point.ensures.bound point.0
