use Rattle.std.proofs.Common.{ℕ, ◌≤◌, List, slice_get, sym, ap, subst, ◌∙◌, arith}
use Rattle.std.specs.Option.{option_map}
use Rattle.nc_types.specs.declared.TheConstants.{HOP_LIMIT}
use Rattle.nc_tables.specs.Forwarding.{Alternative}
use Rattle.nc_underlay.specs.Distances as distances
use Rattle.nc_trace.specs.declared.packet.By.TheVariants.{Filtered}
use Rattle.nc_trace.specs.Views.{outcome_view}
use Rattle.nc_trace.proofs.Taking.{flow_step}
use Rattle.nc_trace.proofs.Tracing.{counts, no_step, step_told, ways_told}
use Rattle.nc_trace.proofs.flow.FlowTo.arrives_by.Goals as goal

pub returns-in-Some : goal.returns-in-Some
returns-in-Some c s from to is included =
    let found = c.args.self.now.found in
    let router = c.args.router.0 in
    let by = Filtered (record { 0 = from }) in
    let few : c.args.hops ≤ HOP_LIMIT = omega (arith, c.if-hops-gt-HOP_LIMIT.false) in
    let ways = c.ways.ensures ∙ ways_told s by to is.none found is.found router included in
    let there = c.in-Some.ensures ∙ ap (λ (ws : List Alternative). option_map (λ (way : Alternative). way.outcome) (slice_get ws c.args.place)) ways in
    let over = λ (hops next : ℕ). counts s by to is.none found is.found router included hops next to in
    c.leads_on.ensures (counts s by to is.none found is.found router included) to (subst (distances.AreFewest over) (sym c.deref.ensures.value) is.fewest)
    ∙ step_told s by to is.none found is.found router included c.args.place c.args.hops few (outcome_view c.in-Some.outcome) there
    ∙ flow_step s (record { 0 = from }) to router c.args.place c.args.hops

pub returns-in-None : goal.returns-in-None
returns-in-None c s from to is included =
    let found = c.args.self.now.found in
    let router = c.args.router.0 in
    let by = Filtered (record { 0 = from }) in
    let ways = c.ways.ensures ∙ ways_told s by to is.none found is.found router included in
    no_step s by to is.none found is.found router included c.args.place c.args.hops (c.in-None.ensures ∙ ap (λ (ws : List Alternative). option_map (λ (way : Alternative). way.outcome) (slice_get ws c.args.place)) ways)
    ∙ flow_step s (record { 0 = from }) to router c.args.place c.args.hops
