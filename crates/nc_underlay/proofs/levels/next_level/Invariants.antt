use Rattle.std.proofs.Common.{◌≡◌, ℕ, length}
use Rattle.nc_types.specs.declared.TheConstants.{ROUTER_LIMIT}
use Rattle.nc_underlay.specs.Levels.{flag, any_flagged, is_next}
use Rattle.nc_underlay.proofs.levels.next_level.Given as goal

abbrev pub invariant-routers : goal.invariant-routers
invariant-routers l = record {
  flags : (other : ℕ) → flag l.next other ≡ any_flagged l.level (λ (r : ℕ). is_next l.network l.base r l.addr.0 other) l.router;
  size : length l.next ≡ ROUTER_LIMIT;
}
