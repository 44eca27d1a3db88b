use Rattle.std.proofs.Common.{◌≡◌, ℕ, ◌+◌, List, ◌++◌, length, None, true, refl, sym, ap, ◌∙◌, arith}
use Rattle.std.proofs.lemmas.List.{length-map}
use Rattle.nc_types.specs.Config.{ConfigView}
use Rattle.nc_tables.specs.Reach.{own_place}
use Rattle.nc_trace.specs.Views.{alternative_view}
use Rattle.nc_fact.specs.declared.fact.Fact.{Fact}
use Rattle.nc_fact.specs.declared.fact.Fact.TheVariants.{AllStep}
use Rattle.nc_rules_route.specs.declared.packet.Packet.TheVariants.{ByEach}
use Rattle.nc_rules_route.specs.Parents.{steps_of, parents}
use Rattle.nc_rules_route.proofs.Ranges.{made_between, made_more, taken}
use Rattle.nc_rules_route.proofs.Steps.{all_between, without_own}
use Rattle.nc_rules_route.proofs.paths.push_all_trace.Goals as goal

pub count_ways-count-requires : goal.count_ways-count-requires
count_ways-count-requires c =
    let s = c.args.state.now in
    omega (arith, ap (λ ws. length ws) (c.ways-ways.ensures s c.args.addr.0 c.requires.traced c.requires.included), length-map c.ways-ways.result.now alternative_view)

pub ways-preserved : goal.ways-preserved
ways-preserved c =
    let step = λ (way : ℕ). AllStep c.args.router c.args.addr way c.args.hops in
    let all = λ (n : ℕ). true in
    let place = c.ways.place in
    c.in_ok-push-2.ensures.items
    ∙ taken c.args.into.now.items c.ways.into.items (made_between step all 0 place) (made_between step all 0 (place + 1)) (step place) true c.ways.invariant (made_more step all 0 place (omega arith)) refl

pub returns-clause-ok : goal.returns-clause-ok
unfolding parents
returns-clause-ok c =
    let s = c.args.state.now in
    let router = c.args.router in
    let addr = c.args.addr in
    let last : c.ways.place ≡ length c.ways-ways.result.now = omega (arith, c.count_ways-count.ensures, c.ways-test.false, c.ways.auto.place-end) in
    let none : own_place s.routers router.0 addr.0 ≡ None = ap (λ (cs : List ConfigView). own_place cs router.0 addr.0) (sym c.network.ensures.network) ∙ sym c.in_default.ensures in
    c.ways.invariant
    ∙ ap (λ (fs : List Fact). c.args.into.now.items ++ fs)
    (all_between s router addr ByEach c.args.hops c.ways-ways.result.now c.ways.place (ap (λ ws. length ws) (c.ways-ways.ensures s addr.0 c.requires.traced c.requires.included)) last ∙ sym (without_own s router addr (steps_of s ByEach router addr c.args.hops) none))
