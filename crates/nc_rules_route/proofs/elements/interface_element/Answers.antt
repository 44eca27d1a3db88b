use Rattle.std.proofs.Common.{◌≡◌, ℕ, ◌<◌, List, Some, [], ◌∷◌, length, slice_get, sym, ap, subst, ◌∙◌}
use Rattle.std.proofs.lemmas.Option.{slice_get_within, same_Some}
use Rattle.nc_types.specs.Config.{ConfigView, config_view}
use Rattle.nc_types.specs.Network.{number_at}
use Rattle.nc_fact.specs.declared.fact.Fact.TheVariants.{Element}
use Rattle.nc_rules_route.proofs.ElementFacts.{interface_found}
use Rattle.nc_rules_route.proofs.elements.interface_element.Goals as goal

pub element_id-requires-clause-router : goal.element_id-requires-clause-router
element_id-requires-clause-router c =
    let routers = c.args.state.now.routers in
    let at : slice_get routers c.args.router.0 ≡ Some (config_view c.in_ok-config.config.now) = sym c.in_ok-config.ensures.config in
    subst (λ (cs : List ConfigView). c.args.router.0 < length cs) (sym c.network.ensures.network) (slice_get_within routers c.args.router.0 (config_view c.in_ok-config.config.now) at)

pub element_id-requires-clause-place : goal.element_id-requires-clause-place
element_id-requires-clause-place c x is =
    let s = c.args.state.now in
    let config = config_view c.in_ok-config.config.now in
    let at : slice_get s.routers c.args.router.0 ≡ Some config = sym c.in_ok-config.ensures.config in
    let found = interface_found s c.args.router.0 config at c.in_ok-config.ensures.formed c.args.iface.0 c.in_ok-place.place (sym c.in_ok-place.ensures) in
    let same : config ≡ x = same_Some config x (sym at ∙ sym (ap (λ (cs : List ConfigView). slice_get cs c.args.router.0) c.network.ensures.network) ∙ is) in
    subst (λ (d : ConfigView). c.in_ok-place.place < length d.elements) same found.1

pub returns : goal.returns
returns c =
    let s = c.args.state.now in
    let config = config_view c.in_ok-config.config.now in
    let at : slice_get s.routers c.args.router.0 ≡ Some config = sym c.in_ok-config.ensures.config in
    let found = interface_found s c.args.router.0 config at c.in_ok-config.ensures.formed c.args.iface.0 c.in_ok-place.place (sym c.in_ok-place.ensures) in
    ap (λ (n : ℕ). Element (record { 0 = n }) ∷ []) (c.element_id.ensures.number ∙ ap (λ (cs : List ConfigView). number_at cs c.args.router.0 c.in_ok-place.place) c.network.ensures.network) ∙ sym found.0
