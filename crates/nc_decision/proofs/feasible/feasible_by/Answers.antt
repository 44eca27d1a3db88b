use Rattle.std.proofs.Common.{ap, ◌∙◌, arith}
use Rattle.std.proofs.lemmas.Option.{slice_get_within}
use Rattle.nc_types.specs.declared.config.RouterId.{RouterId}
use Rattle.nc_sessions.specs.Views.{link_view}
use Rattle.nc_message.proofs.PeerFirst.{none_learnt_silent, one_learnt}
use Rattle.nc_decision.proofs.Standing.{best_of_same}
use Rattle.nc_decision.proofs.feasible.feasible_by.Goals as goal

pub best_of-requires-clause-router : goal.best_of-requires-clause-router
best_of-requires-clause-router c =
    let routers = c.args.inputs.now.network.now in
    let k = link_view c.args.peering.now.adjacency.link in
    omega (arith, slice_get_within routers k.session.peer.0 k.sender.config c.requires.peering.between.sender, c.requires.ribs, ap (λ (r : RouterId). r.0) c.requires.peering.peer)

pub returns-in_err-best-clause-feasible : goal.returns-in_err-best-clause-feasible
returns-in_err-best-clause-feasible c =
    let i = c.args.inputs.now in
    c.from_residual.ensures
    ∙ none_learnt_silent i.network.now i.base.now i.sessions.now c.args.ribs.now.rows c.args.router.0 c.args.peering.now.place c.args.of.now.prefix (link_view c.args.peering.now.adjacency.link) c.requires.peering.link (c.in_err-best.ensures.best ∙ best_of_same c.args.ribs.now.rows c.args.of.now.prefix c.requires.peering.peer)

pub returns-in_err-feasible-clause-feasible : goal.returns-in_err-feasible-clause-feasible
returns-in_err-feasible-clause-feasible c =
    let i = c.args.inputs.now in
    c.from_residual-in_err-feasible.ensures
    ∙ c.in_err-feasible.ensures.feasible
    ∙ one_learnt i.network.now i.base.now i.sessions.now c.args.ribs.now.rows c.args.router.0 c.args.peering.now.place c.args.of.now.prefix (link_view c.args.peering.now.adjacency.link) c.requires.peering.link c.in_ok-best.best.now (c.in_ok-best.ensures.best ∙ best_of_same c.args.ribs.now.rows c.args.of.now.prefix c.requires.peering.peer)

pub returns-clause-feasible : goal.returns-clause-feasible
returns-clause-feasible c =
    let i = c.args.inputs.now in
    c.in_ok-feasible.ensures.feasible
    ∙ one_learnt i.network.now i.base.now i.sessions.now c.args.ribs.now.rows c.args.router.0 c.args.peering.now.place c.args.of.now.prefix (link_view c.args.peering.now.adjacency.link) c.requires.peering.link c.in_ok-best.best.now (c.in_ok-best.ensures.best ∙ best_of_same c.args.ribs.now.rows c.args.of.now.prefix c.requires.peering.peer)

pub returns-clause-own : goal.returns-clause-own
returns-clause-own c = c.in_ok-feasible.ensures.own ∙ c.in_ok-best.ensures.own
