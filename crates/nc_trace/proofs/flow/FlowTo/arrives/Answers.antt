use Rattle.std.proofs.Common.{ℕ, List, nat_le, ap, ◌∙◌}
use Rattle.nc_underlay.specs.Distances.{fewest_of}
use Rattle.nc_trace.specs.declared.packet.By.TheVariants.{Filtered}
use Rattle.nc_trace.proofs.Tracing.{arrives_told}
use Rattle.nc_trace.proofs.flow.FlowTo.arrives.Goals as goal

pub returns : goal.returns
returns c s from to is included =
    c.is_within.ensures
    ∙ ap (λ (numbers : List ℕ). nat_le (fewest_of numbers c.args.router.0) c.args.hops) c.deref.ensures.value
    ∙ arrives_told s (Filtered (record { 0 = from })) to is.none c.args.self.now.found is.found c.args.router.0 included c.args.self.now.fewest.items is.fewest c.args.hops c.requires
