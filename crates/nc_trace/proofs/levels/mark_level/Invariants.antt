use Rattle.std.proofs.Common.{None, ◌≡◌, ℕ, ◌+◌, ◌<◌, ◌≤◌, false}
use Rattle.nc_underlay.specs.Distances.{fewest_of, IsMarked}
use Rattle.nc_trace.specs.Levels.{over}
use Rattle.nc_trace.proofs.levels.mark_level.Given as goal

abbrev pub invariant-routers : goal.invariant-routers
invariant-routers l = record {
  done : (r : ℕ) → r < l.router → IsMarked (over l.asked.state.now l.asked.by l.asked.addr.0 None) (l.hops + 1) (fewest_of l.fewest r) r;
  rest : (r : ℕ) → l.router ≤ r → fewest_of l.fewest r ≡ fewest_of l.fn.fewest r;
  same : l.more ≡ false → l.fewest ≡ l.fn.fewest;
}
