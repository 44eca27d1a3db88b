use Rattle.std.proofs.Common.{◌≡◌, ◌++◌, map, drop}
use Rattle.nc_main_rib.proofs.prefixes.add_of_aggregates.Given as goal

-- the prefixes so far and those that are left are all
abbrev pub invariant-aggregates : goal.invariant-aggregates
invariant-aggregates l = l.prefixes.items ++ map (λ x. x.prefix) (drop l.aggregate-index l.aggregates) ≡ l.fn.prefixes.items ++ map (λ x. x.prefix) l.aggregates
