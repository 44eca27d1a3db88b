use Rattle.std.proofs.Common.{List, slice_get, ap, sym}
use Rattle.std.specs.Option.{option_map}
use Rattle.nc_tables.specs.Forwarding.{Alternative}
use Rattle.nc_trace.specs.Views.{alternative_view}
use Rattle.nc_trace.proofs.Beyond.{past_all, none_out}
use Rattle.nc_trace.proofs.Taking.{outcome_there}
use Rattle.nc_trace.proofs.arriving.outcome_at.Goals as goal

pub returns-then-router-routers : goal.returns-then-router-routers
returns-then-router-routers c =
    let beyond = past_all c.routers.result.now c.network.result.now c.args.state.now.routers c.args.router.0 c.routers.ensures.routers c.network.ensures.network c.if-router-routers.true in
    sym (ap (λ (ways : List Alternative). option_map (λ (way : Alternative). way.outcome) (slice_get ways c.args.place)) (none_out c.args.state.now c.network.ensures.state c.args.router.0 beyond c.args.packet))

pub returns : goal.returns
returns c = outcome_there c.args.state.now c.args.packet c.args.router.0 c.args.place (alternative_view c.in_ok-way.way) (alternative_view c.taken.result) c.in_ok-way.ensures c.taken.ensures
