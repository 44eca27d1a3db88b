use Rattle.std.proofs.Common.{◌≡◌, length}
use Rattle.nc_tables.specs.Forwarding.{arrives_by, some_way}
use Rattle.nc_underlay.specs.Distances.{is_earlier}
use Rattle.nc_trace.proofs.levels.some_passes.Given as goal

abbrev pub invariant-ways : goal.invariant-ways
invariant-ways l = record {
  same : some_way (λ way. arrives_by (is_earlier l.fewest l.hops) way.outcome) l.fn.ways ≡ some_way (λ way. arrives_by (is_earlier l.fewest l.hops) way.outcome) l.ways;
}

abbrev pub decreases-ways : goal.decreases-ways
decreases-ways l = length l.ways
