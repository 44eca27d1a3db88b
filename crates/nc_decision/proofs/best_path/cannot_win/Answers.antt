use Rattle.std.proofs.Common.{Option, true, sym, ap, ◌∙◌, arith}
use Rattle.std.specs.Option.{option_map_or}
use Rattle.std.proofs.lemmas.Option.{slice_get_within}
use Rattle.nc_types.specs.Config.{process_view}
use Rattle.nc_tables.specs.declared.bgp.Chosen.{Chosen}
use Rattle.nc_types.specs.declared.config.RouterId.{RouterId}
use Rattle.nc_sessions.specs.Views.{link_view}
use Rattle.nc_decision.specs.BestPath.{is_beaten}
use Rattle.nc_decision.proofs.Bare.{leads_out}
use Rattle.nc_decision.proofs.Outranked.{cannot_win_silent, outranked_cannot_win}
use Rattle.nc_message.proofs.PeerFirst.{one_learnt}
use Rattle.nc_decision.proofs.Standing.{best_of_same}
use Rattle.nc_decision.proofs.best_path.cannot_win.Goals as goal

pub best_of-requires-clause-router : goal.best_of-requires-clause-router
best_of-requires-clause-router c =
    let routers = c.args.inputs.now.network.now in
    let k = link_view c.args.peering.now.adjacency.link in
    omega (arith, slice_get_within routers k.session.peer.0 k.sender.config c.requires.peering.between.sender, c.requires.ribs, ap (λ (r : RouterId). r.0) c.requires.peering.peer)

pub is_outranked-requires-clause-bare : goal.is_outranked-requires-clause-bare
is_outranked-requires-clause-bare c = leads_out c.args.inputs.now.base.now c.args.router.0 (link_view c.args.peering.now.adjacency.link) c.args.peering.now.bare c.requires.peering.bare

pub returns-in_default : goal.returns-in_default
returns-in_default c =
    let i = c.args.inputs.now in
    sym (cannot_win_silent i.network.now i.base.now i.sessions.now c.args.ribs.now.rows c.args.router.0 c.args.peering.now.place c.args.of.now.prefix c.args.best.now (process_view c.args.process.now) (link_view c.args.peering.now.adjacency.link)
    (sym c.requires.peering.link) (sym (c.in_default.ensures.best ∙ best_of_same c.args.ribs.now.rows c.args.of.now.prefix c.requires.peering.peer)))

pub returns-then-is_outranked : goal.returns-then-is_outranked
returns-then-is_outranked c =
    let i = c.args.inputs.now in
    sym (outranked_cannot_win i.network.now i.base.now i.sessions.now c.args.ribs.now.rows c.args.router.0 c.args.peering.now.place c.args.of.now.prefix c.args.best.now (process_view c.args.process.now) (link_view c.args.peering.now.adjacency.link)
    (sym c.requires.peering.link) c.in-Some.sent.now (sym (c.in-Some.ensures.best ∙ best_of_same c.args.ribs.now.rows c.args.of.now.prefix c.requires.peering.peer)) (c.is_outranked.ensures c.if-is_outranked.true))

pub returns-in-None : goal.returns-in-None
returns-in-None c =
    let i = c.args.inputs.now in
    ap (λ (o : Option Chosen). option_map_or (is_beaten (process_view c.args.process.now) c.args.best.now) o true)
    (c.in-None.ensures.feasible
    ∙ one_learnt i.network.now i.base.now i.sessions.now c.args.ribs.now.rows c.args.router.0 c.args.peering.now.place c.args.of.now.prefix (link_view c.args.peering.now.adjacency.link) c.requires.peering.link c.in-Some.sent.now (c.in-Some.ensures.best ∙ best_of_same c.args.ribs.now.rows c.args.of.now.prefix c.requires.peering.peer))

pub returns-in-Some-feasible_over : goal.returns-in-Some-feasible_over
returns-in-Some-feasible_over c =
    let i = c.args.inputs.now in
    c.is_beaten.ensures
    ∙ ap (λ (o : Option Chosen). option_map_or (is_beaten (process_view c.args.process.now) c.args.best.now) o true)
    (c.in-Some-feasible_over.ensures.feasible
    ∙ one_learnt i.network.now i.base.now i.sessions.now c.args.ribs.now.rows c.args.router.0 c.args.peering.now.place c.args.of.now.prefix (link_view c.args.peering.now.adjacency.link) c.requires.peering.link c.in-Some.sent.now (c.in-Some.ensures.best ∙ best_of_same c.args.ribs.now.rows c.args.of.now.prefix c.requires.peering.peer))
