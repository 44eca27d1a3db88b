use Rattle.std.proofs.Common.{None, ◌-◌, ◌≤◌}
use Rattle.nc_trace.specs.Levels.{AreMarked}
use Rattle.nc_trace.proofs.levels.fewest_hops.Given as goal

abbrev pub invariant-levels : goal.invariant-levels
invariant-levels l = record {
  marked : AreMarked l.asked.state.now l.asked.by l.asked.addr.0 None l.hops l.fewest;
  upto : l.hops ≤ 31;
}

abbrev pub decreases-levels : goal.decreases-levels
decreases-levels l = 31 - l.hops
