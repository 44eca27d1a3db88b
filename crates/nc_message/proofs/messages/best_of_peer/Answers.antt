use Rattle.std.proofs.Common.{◌≡◌, List, length, map, sym, ap, ◌∙◌, arith}
use Rattle.std.proofs.lemmas.List.{length-map}
use Rattle.std.specs.Option.{option_map}
use Rattle.nc_types.specs.Config.{ConfigView, config_view}
use Rattle.nc_types.specs.declared.config.RouterConfig.{RouterConfig}
use Rattle.nc_tables.specs.SpreadView.{route_view}
use Rattle.nc_message.specs.Peers.{best_over}
use Rattle.nc_message.proofs.PeerFirst.{none_by, none_past}
use Rattle.nc_message.proofs.messages.best_of_peer.Goals as goal

as_many : (configs : List RouterConfig) (routers : List ConfigView) → map config_view configs ≡ routers → length configs ≡ length routers
as_many configs routers e = sym (length-map configs config_view) ∙ ap (λ (rs : List ConfigView). length rs) e

pub returns-then-router-count-clause-best : goal.returns-then-router-count-clause-best
returns-then-router-count-clause-best c =
    let i = c.args.inputs.now in
    let count = as_many c.routers-count.result.now i.network.now c.routers-count.ensures.routers in
    ap (best_over c.args.table.now c.args.prefix) (none_by i.sessions.now c.args.router.0 c.args.place (omega (arith, count, c.requires.inputs.sessions, c.if-router-count.true)))

pub returns-then-session-count-clause-best : goal.returns-then-session-count-clause-best
returns-then-session-count-clause-best c =
    let table = c.args.table.now in
    let count = as_many c.routers-count.result.now c.args.inputs.now.network.now c.routers-count.ensures.routers in
    none_past table c.in_ok-session.session.now.peer.0 c.args.prefix (omega (arith, count, c.requires.table, c.if-session-count.true))
    ∙ ap (best_over table c.args.prefix) c.in_ok-session.ensures

pub returns-in_err-session-clause-best : goal.returns-in_err-session-clause-best
returns-in_err-session-clause-best c = ap (option_map route_view) c.from_residual.ensures ∙ ap (best_over c.args.table.now c.args.prefix) c.in_err-session.ensures

pub returns-clause-best : goal.returns-clause-best
returns-clause-best c = c.best_at.ensures.best ∙ ap (best_over c.args.table.now c.args.prefix) c.in_ok-session.ensures

pub best_at-requires : goal.best_at-requires
best_at-requires c =
    let count = as_many c.routers-count.result.now c.args.inputs.now.network.now c.routers-count.ensures.routers in
    omega (arith, count, c.requires.table, c.if-session-count.false)
