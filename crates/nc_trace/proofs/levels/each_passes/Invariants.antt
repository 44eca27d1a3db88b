use Rattle.std.proofs.Common.{◌≡◌, ◌&&◌, ◌||◌, nat_lt, length}
use Rattle.std.specs.List.{list_all}
use Rattle.nc_tables.specs.Forwarding.{arrives_by, each_way}
use Rattle.nc_underlay.specs.Distances.{is_earlier}
use Rattle.nc_trace.proofs.levels.each_passes.Given as goal

abbrev pub invariant-ways : goal.invariant-ways
invariant-ways l = record {
  same : each_way (λ way. arrives_by (is_earlier l.fewest l.hops) way.outcome) l.fn.ways
      ≡ ((l.some || nat_lt 0 (length l.ways)) && list_all (λ way. arrives_by (is_earlier l.fewest l.hops) way.outcome) l.ways);
}

abbrev pub decreases-ways : goal.decreases-ways
decreases-ways l = length l.ways
