use Rattle.std.proofs.Common.{◌≡◌, ℕ, ◌+◌, List, ◌++◌, length, filter, None, true, sym, ap, ◌∙◌, arith}
use Rattle.std.proofs.lemmas.List.{length-map}
use Rattle.nc_types.specs.Config.{ConfigView}
use Rattle.nc_tables.specs.Reach.{own_place}
use Rattle.nc_trace.specs.Found.{taken as taken_way}
use Rattle.nc_trace.specs.Views.{alternative_view}
use Rattle.nc_fact.specs.declared.fact.Fact.{Fact}
use Rattle.nc_fact.specs.declared.fact.Fact.TheVariants.{FlowStep}
use Rattle.nc_fact.specs.Facts.{holds}
use Rattle.nc_rules_route.specs.declared.packet.Packet.TheVariants.{From}
use Rattle.nc_rules_route.specs.Parents.{ways_out, steps_of, parents}
use Rattle.nc_rules_route.proofs.Ranges.{made_between, kept_more, taken, passed_over}
use Rattle.nc_rules_route.proofs.Steps.{all_between, without_own}
use Rattle.nc_rules_route.proofs.flows.push_flow.Goals as goal
use Rattle.nc_rules_route.proofs.flows.push_flow.Goals.{then-arrives_by+in_ok-push-2, else-arrives_by}

pub count_ways-count-requires : goal.count_ways-count-requires
count_ways-count-requires c =
    let s = c.args.state.now in
    let all = ap (λ ws. length ws) (c.ways-ways.ensures s c.args.from.0 c.args.to.0 c.requires.flow c.requires.included) in
    omega (arith, all, length-map (ways_out s c.args.router c.args.to) (taken_way s c.args.from.0 c.args.to.0 c.args.router.0), length-map c.ways-ways.result.now alternative_view)

pub ways-preserved : goal.ways-preserved
unfolding holds
ways-preserved c =
    let s = c.args.state.now in
    let step = λ (way : ℕ). FlowStep c.args.hops c.args.router c.args.from c.args.to way in
    let all = λ (n : ℕ). true in
    let place = c.ways.place in
    let more = kept_more step all (holds s) 0 place (omega arith) in
    let before = filter (holds s) (made_between step all 0 place) in
    let after = filter (holds s) (made_between step all 0 (place + 1)) in
    let passing : c.arrives_by.result ≡ holds s (step place) = c.arrives_by.ensures s c.args.from.0 c.args.to.0 c.requires.flow c.requires.included in
    elim c.if-arrives_by.branch [
      | then-arrives_by+in_ok-push-2 w ↦
          ap (λ v. v.items) w.into-is ∙ w.in_ok-push-2.ensures.items
          ∙ taken c.args.into.now.items c.ways.into.items before after (step place) (holds s (step place)) c.ways.invariant more (sym passing ∙ w.if-arrives_by.true)
      | else-arrives_by w ↦ ap (λ v. v.items) w.into-is ∙ passed_over c.args.into.now.items c.ways.into.items before after (step place) (holds s (step place)) c.ways.invariant more (sym passing ∙ w.if-arrives_by.false)
    ]

pub returns-clause-ok : goal.returns-clause-ok
unfolding parents
returns-clause-ok c =
    let s = c.args.state.now in
    let router = c.args.router in
    let from = c.args.from in
    let addr = c.args.to in
    let last : c.ways.place ≡ length c.ways-ways.result.now = omega (arith, c.count_ways-count.ensures, c.ways-test.false, c.ways.auto.place-end) in
    let none : own_place s.routers router.0 addr.0 ≡ None = ap (λ (cs : List ConfigView). own_place cs router.0 addr.0) (sym c.network.ensures.network) ∙ sym c.in_default.ensures in
    c.ways.invariant
    ∙ ap (λ (fs : List Fact). c.args.into.now.items ++ filter (holds s) fs) (all_between s router addr (From from) c.args.hops c.ways-ways.result.now c.ways.place (ap (λ ws. length ws) (c.ways-ways.ensures s from.0 addr.0 c.requires.flow c.requires.included) ∙ length-map (ways_out s router addr) (taken_way s from.0 addr.0 router.0)) last)
    ∙ ap (λ (fs : List Fact). c.args.into.now.items ++ fs) (sym (without_own s router addr (filter (holds s) (steps_of s (From from) router addr c.args.hops)) none))
