use Rattle.std.proofs.Common.{ap, ◌∙◌}
use Rattle.std.specs.Option.{option_and_then, option_map}
use Rattle.nc_tables.specs.Rounds.{accepted_at, accepted_of}
use Rattle.nc_tables.specs.SpreadView.{route_view}
use Rattle.nc_sessions.specs.Views.{link_view}
use Rattle.nc_message.specs.Views.{accepted_view}
use Rattle.nc_message.proofs.PeerFirst.{none_sent, none_linked, one_sent}
use Rattle.nc_message.proofs.accepting.accepted_at.Goals as goal

pub returns-in_err-best-clause-accepted : goal.returns-in_err-best-clause-accepted
unfolding accepted_at
returns-in_err-best-clause-accepted c =
    let i = c.args.inputs.now in
    ap (option_map accepted_view) c.from_residual.ensures
    ∙ ap (option_and_then (accepted_of i.base.now c.args.router.0))
    (none_sent i.network.now i.base.now i.sessions.now c.args.table.now c.args.router.0 c.args.place c.args.prefix c.in_err-best.ensures.best)

pub returns-in_err-adjacency-clause-accepted : goal.returns-in_err-adjacency-clause-accepted
unfolding accepted_at
returns-in_err-adjacency-clause-accepted c =
    let i = c.args.inputs.now in
    ap (option_map accepted_view) c.from_residual-in_err-adjacency.ensures
    ∙ ap (option_and_then (accepted_of i.base.now c.args.router.0))
    (none_linked i.network.now i.base.now i.sessions.now c.args.table.now c.args.router.0 c.args.place c.args.prefix c.in_err-adjacency.ensures.link)

pub returns-clause-accepted : goal.returns-clause-accepted
unfolding accepted_at
returns-clause-accepted c =
    let i = c.args.inputs.now in
    c.accepted_over.ensures.accepted
    ∙ ap (option_and_then (accepted_of i.base.now c.args.router.0))
    (one_sent i.network.now i.base.now i.sessions.now c.args.table.now c.args.router.0 c.args.place c.args.prefix (link_view c.in_ok-adjacency.adjacency.link) c.in_ok-adjacency.ensures.link (route_view c.in_ok-best.best) c.in_ok-best.ensures.best)
