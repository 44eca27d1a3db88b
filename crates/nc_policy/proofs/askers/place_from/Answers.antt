use Rattle.std.proofs.Common.{nat_lt, rules}
use Rattle.std.proofs.lemmas.List.Sorted.{IsPartitionPoint-from_clause, IsPartitionedBy-ltb}
use Rattle.nc_policy.specs.declared.askers.Asker.{Asker}
use Rattle.nc_policy.proofs.Ranging.{point_before, point_behind}
use Rattle.nc_policy.proofs.askers.place_from.Goals as goal

pub returns-clause-before : goal.returns-clause-before
returns-clause-before c = λ k a at lt.
    let xs = c.args.items.now in
    let number = c.args.number in
    point_before xs number c.partition_point.result
    (IsPartitionPoint-from_clause (λ (a : Asker). nat_lt a.community number) xs c.partition_point.result c.partition_point.ensures.partitioned (IsPartitionedBy-ltb (λ (a : Asker). a.community) xs number c.requires) (λ a r q k. search rules)) k a at lt

pub returns-clause-behind : goal.returns-clause-behind
returns-clause-behind c = λ k a at le.
    let xs = c.args.items.now in
    let number = c.args.number in
    point_behind xs number c.partition_point.result
    (IsPartitionPoint-from_clause (λ (a : Asker). nat_lt a.community number) xs c.partition_point.result c.partition_point.ensures.partitioned (IsPartitionedBy-ltb (λ (a : Asker). a.community) xs number c.requires) (λ a r q k. search rules)) k a at le
