use Rattle.std.proofs.Common.{rules}
use Rattle.std.specs.Ordering.{is_le}
use Rattle.std.proofs.lemmas.List.Sorted.{IsPartitionPoint-from_clause}
use Rattle.nc_tables.specs.Base.{prefix_cmp}
use Rattle.nc_tables.proofs.SideBySide.{rises, upto_first}
use Rattle.nc_tables.proofs.longest.place_behind.Goals as goal

pub returns-clause-parts : goal.returns-clause-parts
returns-clause-parts g c =
    IsPartitionPoint-from_clause (λ row. is_le (prefix_cmp (g.R.HasPrefix.prefix_of row) c.args.prefix)) c.args.rows.now c.partition_point.result c.partition_point.ensures.partitioned
    (upto_first g.R.HasPrefix.prefix_of c.args.rows.now (rises g.R.HasPrefix.prefix_of c.args.rows.now c.requires) c.args.prefix) (λ a r q k. search rules)
