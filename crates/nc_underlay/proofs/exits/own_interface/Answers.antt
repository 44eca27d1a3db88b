use Rattle.std.proofs.Common.{ℕ, Bool, Some, None, cond, sym, ap, ◌∙◌}
use Rattle.std.specs.Option.{option_map}
use Rattle.nc_types.specs.declared.config.IfaceId.{IfaceId}
use Rattle.nc_underlay.proofs.Owners.{place_by, own_is}
use Rattle.nc_underlay.proofs.exits.own_interface.Goals as goal

pub returns-in_err-owner : goal.returns-in_err-owner
returns-in_err-owner c =
    ap (option_map {U = ℕ} (λ (i : IfaceId). i.0)) c.from_residual.ensures
    ∙ ap (place_by c.args.addr.0 c.args.router.0) c.in_err-owner.ensures
    ∙ sym (own_is c.args.network.now c.routers-routers.ensures.valid c.args.addr.0 c.args.router.0)

pub returns-then-eq : goal.returns-then-eq
returns-then-eq c =
    ap (λ (b : Bool). cond b (Some c.in_ok-owner.iface.0) None) (sym (sym c.eq.ensures ∙ c.if-eq.true))
    ∙ ap (place_by c.args.addr.0 c.args.router.0) c.in_ok-owner.ensures
    ∙ sym (own_is c.args.network.now c.routers-routers.ensures.valid c.args.addr.0 c.args.router.0)

pub returns : goal.returns
returns c =
    ap (λ (b : Bool). cond b (Some c.in_ok-owner.iface.0) None) (sym (sym c.eq.ensures ∙ c.if-eq.false))
    ∙ ap (place_by c.args.addr.0 c.args.router.0) c.in_ok-owner.ensures
    ∙ sym (own_is c.args.network.now c.routers-routers.ensures.valid c.args.addr.0 c.args.router.0)
