use Rattle.std.proofs.Common.{nat_lt, rules}
use Rattle.std.proofs.lemmas.List.Sorted.{IsPartitionPoint-from_clause, IsPartitionedBy-ltb}
use Rattle.nc_types.specs.Cidr.{Cidr}
use Rattle.nc_policy.proofs.Sweeping.{point_before, point_behind}
use Rattle.nc_policy.proofs.best.first_from.Goals as goal

pub returns-clause-before : goal.returns-clause-before
returns-clause-before c = λ k p at lt.
    let ps = c.args.prefixes.now in
    let low = c.args.low in
    point_before ps low c.partition_point.result
    (IsPartitionPoint-from_clause (λ (p : Cidr). nat_lt p.base low) ps c.partition_point.result c.partition_point.ensures.partitioned (IsPartitionedBy-ltb (λ (p : Cidr). p.base) ps low c.requires) (λ a r q k. search rules)) k p at lt

pub returns-clause-behind : goal.returns-clause-behind
returns-clause-behind c = λ k p at le.
    let ps = c.args.prefixes.now in
    let low = c.args.low in
    point_behind ps low c.partition_point.result
    (IsPartitionPoint-from_clause (λ (p : Cidr). nat_lt p.base low) ps c.partition_point.result c.partition_point.ensures.partitioned (IsPartitionedBy-ltb (λ (p : Cidr). p.base) ps low c.requires) (λ a r q k. search rules)) k p at le
