use Rattle.std.proofs.Common.{Bor, ◌≡◌, ◌∙◌, sym, ap, map, arith, List, Some, None, []}
use Rattle.std.specs.List.{slice_get}
use Rattle.std.specs.Option.{is_some, option_and_then}
use Rattle.std.proofs.lemmas.Grind.{common_steps}
use Rattle.std.proofs.lemmas.Option.{gets}
use Rattle.nc_types.specs.declared.config.Element.{Element}
use Rattle.nc_types.specs.declared.config.RouterId.{RouterId}
use Rattle.nc_types.specs.declared.network.elements.ElementPlace.{ElementPlace}
use Rattle.nc_types.specs.declared.config.RouterConfig.{RouterConfig}
use Rattle.nc_types.specs.Config.{ConfigView, config_view, element_view}
use Rattle.nc_types.specs.Network.{element_at}
use Rattle.nc_types.specs.Tables.{element_in}
use Rattle.nc_types.proofs.Placing.{found, is_within, same_some}
use Rattle.nc_types.proofs.network.Network.element.Goals as goal

pub returns-in_err-place-clause-element : goal.returns-in_err-place-clause-element
returns-in_err-place-clause-element c =
    let rs : List ConfigView = map config_view c.self.inside.routers.items in
    let none : slice_get c.deref.result.now c.args.id.0 ≡ None = grind (arith, common_steps, gets) in
    rw (c.from_residual.ensures, ← c.self.view_is) (sym (sym (found [] rs c.args.id.0) ∙ ap (λ (ps : List ElementPlace). option_and_then (element_in rs) (slice_get ps c.args.id.0)) (sym (c.deref.ensures.value ∙ c.self.invariant.served.places)) ∙ ap (option_and_then (element_in rs)) none))

pub returns-clause-element : goal.returns-clause-element
returns-clause-element c =
    let rs : List ConfigView = map config_view c.self.inside.routers.items in
    let some : slice_get c.deref.result.now c.args.id.0 ≡ Some c.in_ok-place.place.now = grind (arith, common_steps, gets) in
    c.element_in.ensures
    ∙ ap (λ (cs : List RouterConfig). element_in (map config_view cs) c.in_ok-place.place.now) c.deref-2.ensures.value
    ∙ ap (option_and_then (element_in rs)) (sym some)
    ∙ ap (λ (ps : List ElementPlace). option_and_then (element_in rs) (slice_get ps c.args.id.0)) (c.deref.ensures.value ∙ c.self.invariant.served.places)
    ∙ found [] rs c.args.id.0
    ∙ ap (λ (cs : List ConfigView). element_at cs c.args.id.0) c.self.view_is

pub returns-in_err-place-clause-within : goal.returns-in_err-place-clause-within
returns-in_err-place-clause-within c =
    same_some (λ (r : RouterId × Bor Element). record { router = r.0.0; element = element_view r.1.now }) c.from_residual.result ∙ ap is_some (returns-in_err-place-clause-element c) ∙ is_within 0 c.args.self.now c.args.id.0

pub returns-clause-within : goal.returns-clause-within
returns-clause-within c =
    same_some (λ (r : RouterId × Bor Element). record { router = r.0.0; element = element_view r.1.now }) c.element_in.result ∙ ap is_some (returns-clause-element c) ∙ is_within 0 c.args.self.now c.args.id.0
