use Rattle.std.proofs.Common.{◌≡◌, ◌-◌}
use Rattle.nc_trace.specs.Left.{left_ways, IsLeft}
use Rattle.nc_trace.proofs.left.next_way.Given as goal

abbrev pub invariant-rows : goal.invariant-rows
invariant-rows l = record {
  same : left_ways l.state l.router.0 l.addr.0 l.fn.left ≡ left_ways l.state l.router.0 l.addr.0 l.left;
  left : IsLeft l.left;
}

abbrev pub decreases-rows : goal.decreases-rows
decreases-rows l = l.left.mains.to - l.left.mains.from
