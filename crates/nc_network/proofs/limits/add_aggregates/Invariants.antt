use Rattle.std.proofs.Common.{map, drop}
use Rattle.nc_network.proofs.Counted.{IsLeft}
use Rattle.nc_network.proofs.limits.add_aggregates.Given as goal

abbrev pub invariant-items : goal.invariant-items
invariant-items l = IsLeft l.initial.seen.keys l.seen.keys (drop l.item-index (map (λ s. s.prefix) l.aggregates)) (map (λ s. s.prefix) l.aggregates)
