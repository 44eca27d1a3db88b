use Rattle.std.proofs.Common.{[], ap, ◌∙◌}
use Rattle.std.specs.Option.{unwrap_or}
use Rattle.nc_trace.specs.declared.packet.By.TheVariants.{SomeWay}
use Rattle.nc_trace.specs.Found.{found_at}
use Rattle.nc_trace.specs.Traced.{Traced}
use Rattle.nc_trace.proofs.Tracing.{ways_told}
use Rattle.nc_trace.proofs.traced.TracedTo.ways.Goals as goal

pub returns : goal.returns
returns c s addr is included =
    c.ways.ensures
    ∙ ap (λ (t : Traced). unwrap_or (found_at t.found c.args.router.0) []) c.self.view_is
    ∙ ways_told s SomeWay addr is.none c.args.self.now.found is.found c.args.router.0 included
