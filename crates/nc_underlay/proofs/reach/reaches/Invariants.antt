use Rattle.std.proofs.Common.{◌≡◌, ℕ, length}
use Rattle.nc_types.specs.declared.TheConstants.{ROUTER_LIMIT}
use Rattle.nc_tables.specs.Reach.{reaches}
use Rattle.nc_underlay.specs.Levels.{any_flagged}
use Rattle.nc_underlay.proofs.reach.reaches.Given as goal

abbrev pub invariant-levels : goal.invariant-levels
invariant-levels l = record {
  -- a flagged router reaches the address with the hops that are left, if the first router does with all
  answer : reaches l.network l.base l.hops l.fn.router.0 l.addr.0 ≡ any_flagged l.level (λ (r : ℕ). reaches l.network l.base l.left r l.addr.0) (length l.network);
  size : length l.level ≡ ROUTER_LIMIT;
}

abbrev pub decreases-levels : goal.decreases-levels
decreases-levels l = l.left
