use Rattle.std.proofs.Common.{◌≡◌, ◌-◌, slice_get}
use Rattle.nc_tables.specs.Forwarding.{alternatives}
use Rattle.nc_trace.proofs.ways.alternative_at.Given as goal

abbrev pub invariant-ways : goal.invariant-ways
invariant-ways l = record {
  same : slice_get l.ways (l.fn.place - l._before) ≡ slice_get (alternatives l.state.routers l.state.base l.state.bgp l.state.main l.fn.router.0 l.fn.addr.0) l.fn.place;
}
