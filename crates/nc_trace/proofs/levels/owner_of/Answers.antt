use Rattle.std.proofs.Common.{Some, None, false, nat_eq, List, Option, ap, sym, ◌∙◌}
use Rattle.std.specs.Option.{option_map_or}
use Rattle.nc_types.specs.declared.config.RouterId.{RouterId}
use Rattle.nc_types.specs.Config.{ConfigView}
use Rattle.nc_tables.specs.Reach.{owns}
use Rattle.nc_underlay.proofs.Owners.{owned_by}
use Rattle.nc_trace.proofs.levels.owner_of.Goals as goal

pub returns : goal.returns
returns c router =
    sym (owned_by c.network-network.result.now c.routers-valid.ensures.valid c.args.addr.0 (Some (record { router = c.in_ok-owner.owner.0; place = c.in_ok-owner.field-0-1.0 })) router (sym c.in_ok-owner.ensures))
    ∙ ap (λ (cs : List ConfigView). owns cs router c.args.addr.0) c.network-network.ensures.network

pub returns-in_err-owner : goal.returns-in_err-owner
returns-in_err-owner c router =
    ap (λ (o : Option RouterId). option_map_or (λ (own : RouterId). nat_eq own.0 router) o false) c.from_residual.ensures
    ∙ sym (owned_by c.network-network.result.now c.routers-valid.ensures.valid c.args.addr.0 None router (sym c.in_err-owner.ensures))
    ∙ ap (λ (cs : List ConfigView). owns cs router c.args.addr.0) c.network-network.ensures.network
