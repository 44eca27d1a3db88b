use Rattle.std.proofs.Common.{ℕ, List, nat_le, ap, ◌∙◌}
use Rattle.nc_underlay.specs.Distances.{fewest_of}
use Rattle.nc_trace.specs.declared.packet.By.TheVariants.{SomeWay}
use Rattle.nc_trace.specs.Traced.{Traced}
use Rattle.nc_trace.proofs.Tracing.{arrives_told}
use Rattle.nc_trace.proofs.traced.TracedTo.arrives.Goals as goal

pub returns : goal.returns
returns c s addr is included =
    c.is_within.ensures
    ∙ ap (λ (numbers : List ℕ). nat_le (fewest_of numbers c.args.router.0) c.args.hops) c.deref.ensures.value
    ∙ ap (λ (t : Traced). nat_le (fewest_of t.some c.args.router.0) c.args.hops) c.self.view_is
    ∙ arrives_told s SomeWay addr is.none c.args.self.now.found is.found c.args.router.0 included c.args.self.now.some is.some c.args.hops c.requires
