use Rattle.std.proofs.Common.{ℕ, ◌≤◌, List, [], slice_get, sym, ap, subst, ◌∙◌, arith}
use Rattle.std.specs.Option.{option_map, unwrap_or}
use Rattle.nc_types.specs.declared.TheConstants.{HOP_LIMIT}
use Rattle.nc_tables.specs.Forwarding.{Alternative}
use Rattle.nc_underlay.specs.Distances as distances
use Rattle.nc_trace.specs.declared.packet.By.TheVariants.{SomeWay}
use Rattle.nc_trace.specs.Found.{found_at}
use Rattle.nc_trace.specs.Traced.{Traced}
use Rattle.nc_trace.specs.Views.{outcome_view}
use Rattle.nc_trace.proofs.Tracing.{counts, no_step, step_told, ways_told}
use Rattle.nc_trace.proofs.traced.TracedTo.arrives_by.Goals as goal

pub returns-in-Some : goal.returns-in-Some
returns-in-Some c s addr is included =
    let t = c.args.self.now in
    let router = c.args.router.0 in
    let few : c.args.hops ≤ HOP_LIMIT = omega (arith, c.if-hops-gt-HOP_LIMIT.false) in
    let ways = c.ways.ensures ∙ ap (λ (x : Traced). unwrap_or (found_at x.found router) []) c.self.view_is ∙ ways_told s SomeWay addr is.none t.found is.found router included in
    let there = c.in-Some.ensures ∙ ap (λ (ws : List Alternative). option_map (λ (way : Alternative). way.outcome) (slice_get ws c.args.place)) ways in
    let over = λ (hops next : ℕ). counts s SomeWay addr is.none t.found is.found router included hops next addr in
    c.leads_on.ensures (counts s SomeWay addr is.none t.found is.found router included) addr
    (subst (distances.AreFewest over) (sym c.deref.ensures.value) (subst (λ (x : Traced). distances.AreFewest over x.some) (sym c.self.view_is) is.some))
    ∙ step_told s SomeWay addr is.none t.found is.found router included c.args.place c.args.hops few (outcome_view c.in-Some.outcome) there

pub returns-in-None : goal.returns-in-None
returns-in-None c s addr is included =
    let t = c.args.self.now in
    let router = c.args.router.0 in
    let ways = c.ways.ensures ∙ ap (λ (x : Traced). unwrap_or (found_at x.found router) []) c.self.view_is ∙ ways_told s SomeWay addr is.none t.found is.found router included in
    no_step s SomeWay addr is.none t.found is.found router included c.args.place c.args.hops (c.in-None.ensures ∙ ap (λ (ws : List Alternative). option_map (λ (way : Alternative). way.outcome) (slice_get ws c.args.place)) ways)
