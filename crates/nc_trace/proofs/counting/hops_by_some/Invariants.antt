use Rattle.std.proofs.Common.{◌≡◌, ℕ, ◌≤◌, ◌||◌, nat_le, drop, map}
use Rattle.std.specs.List.{list_any}
use Rattle.nc_types.specs.declared.TheConstants.{HOP_LIMIT}
use Rattle.nc_tables.specs.Forwarding.{arrives_by}
use Rattle.nc_underlay.specs.Distances.{is_earlier}
use Rattle.nc_trace.specs.Views.{alternative_view}
use Rattle.nc_trace.proofs.counting.hops_by_some.Given as goal

abbrev pub invariant-ways : goal.invariant-ways
invariant-ways l = record {
  told : (hops : ℕ) → hops ≤ HOP_LIMIT
      → (nat_le l.least hops || list_any (λ way. arrives_by (is_earlier l.fewest hops) way.outcome) (drop l.way-index (map alternative_view l.ways)))
      ≡ list_any (λ way. arrives_by (is_earlier l.fewest hops) way.outcome) (map alternative_view l.ways);
}
