use Rattle.std.proofs.Common.{Option, ap, ◌∙◌}
use Rattle.std.specs.Option.{is_some}
use Rattle.std.specs.Prelude.{option_and_then, position}
use Rattle.nc_types.specs.Config.{ConfigView}
use Rattle.nc_types.specs.Network.{has_address}
use Rattle.nc_types.specs.declared.config.IfaceId.{IfaceId}
use Rattle.nc_types.proofs.Placing.{same_some}
use Rattle.nc_sessions.specs.Views.{link_view}
use Rattle.nc_types.proofs.Lookups.{is_placed}
use Rattle.nc_message.proofs.rows.is_own.Goals as goal

pub returns : goal.returns
returns c =
    let config = (link_view c.args.link.now).receiver.config in
    let addr = c.args.addr.0 in
    c.is_some.ensures ∙ same_some (λ (i : IfaceId). i.0) c.own_interface.result ∙ ap is_some c.own_interface.ensures
    ∙ ap (λ (o : Option ConfigView). is_some (option_and_then (λ (k : ConfigView). position (has_address addr) k.interfaces) o)) c.requires.receiver
    ∙ is_placed (has_address addr) config.interfaces
