use Rattle.std.proofs.Common.{ap, ◌∙◌}
use Rattle.std.specs.Option.{option_map}
use Rattle.nc_tables.specs.SpreadView.{route_view}
use Rattle.nc_sessions.specs.Views.{link_view}
use Rattle.nc_message.specs.Views.{message_view}
use Rattle.nc_message.proofs.PeerFirst.{none_sent, none_linked, one_sent}
use Rattle.nc_message.proofs.messages.message_at.Goals as goal

pub returns-in_err-best-clause-message : goal.returns-in_err-best-clause-message
returns-in_err-best-clause-message c =
    let i = c.args.inputs.now in
    ap (option_map message_view) c.from_residual.ensures
    ∙ none_sent i.network.now i.base.now i.sessions.now c.args.table.now c.args.router.0 c.args.place c.args.prefix c.in_err-best.ensures.best

pub returns-in_err-adjacency-clause-message : goal.returns-in_err-adjacency-clause-message
returns-in_err-adjacency-clause-message c =
    let i = c.args.inputs.now in
    ap (option_map message_view) c.from_residual-in_err-adjacency.ensures
    ∙ none_linked i.network.now i.base.now i.sessions.now c.args.table.now c.args.router.0 c.args.place c.args.prefix c.in_err-adjacency.ensures.link

pub returns-clause-message : goal.returns-clause-message
returns-clause-message c =
    let i = c.args.inputs.now in
    c.message_of.ensures.message
    ∙ one_sent i.network.now i.base.now i.sessions.now c.args.table.now c.args.router.0 c.args.place c.args.prefix (link_view c.in_ok-adjacency.adjacency.link) c.in_ok-adjacency.ensures.link (route_view c.in_ok-best.best) c.in_ok-best.ensures.best
