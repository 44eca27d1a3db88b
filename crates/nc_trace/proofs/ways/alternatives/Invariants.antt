use Rattle.std.proofs.Common.{◌≡◌, ◌++◌, length, map}
use Rattle.nc_tables.specs.Forwarding.{alternatives}
use Rattle.nc_trace.specs.Views.{alternative_view}
use Rattle.nc_trace.proofs.ways.alternatives.Given as goal

abbrev pub invariant-ways : goal.invariant-ways
invariant-ways l = record {
  all : map alternative_view l.made.items ++ l.ways ≡ alternatives l.state.routers l.state.base l.state.bgp l.state.main l.fn.router.0 l.fn.addr.0;
}

abbrev pub decreases-ways : goal.decreases-ways
decreases-ways l = length l.ways
