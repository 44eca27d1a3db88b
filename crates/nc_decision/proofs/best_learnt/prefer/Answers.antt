use Rattle.std.proofs.Common.{Option, sym, ap, ◌∙◌, arith}
use Rattle.std.proofs.lemmas.Option.{slice_get_within}
use Rattle.nc_tables.specs.declared.bgp.Chosen.{Chosen}
use Rattle.nc_types.specs.declared.config.RouterId.{RouterId}
use Rattle.nc_sessions.specs.Views.{link_view}
use Rattle.nc_decision.specs.BestPath.{best_with}
use Rattle.nc_message.proofs.PeerFirst.{none_learnt_silent, one_learnt}
use Rattle.nc_decision.proofs.Bare.{leads_out}
use Rattle.nc_decision.proofs.Preferred.{outranked_stays, own_found, stays_best, takes_best}
use Rattle.nc_decision.proofs.Standing.{best_of_same}
use Rattle.nc_decision.proofs.best_learnt.prefer.Goals as goal

pub best_of-requires-clause-router : goal.best_of-requires-clause-router
best_of-requires-clause-router c =
    let routers = c.args.inputs.now.network.now in
    let k = link_view c.args.peering.now.adjacency.link in
    omega (arith, slice_get_within routers k.session.peer.0 k.sender.config c.requires.peering.between.sender, c.requires.ribs, ap (λ (r : RouterId). r.0) c.requires.peering.peer)

pub is_outranked_by-requires-clause-bare : goal.is_outranked_by-requires-clause-bare
is_outranked_by-requires-clause-bare c = leads_out c.args.inputs.now.base.now c.args.router.0 (link_view c.args.peering.now.adjacency.link) c.args.peering.now.bare c.requires.peering.bare

pub returns-in_default-clause-best : goal.returns-in_default-clause-best
returns-in_default-clause-best c =
    let i = c.args.inputs.now in
    ap (λ (o : Option Chosen). best_with o c.args.best.now)
    (none_learnt_silent i.network.now i.base.now i.sessions.now c.args.ribs.now.rows c.args.router.0 c.args.peering.now.place c.args.of.now.prefix (link_view c.args.peering.now.adjacency.link) c.requires.peering.link (c.in_default.ensures.best ∙ best_of_same c.args.ribs.now.rows c.args.of.now.prefix c.requires.peering.peer))

pub returns-then-is_outranked_by-clause-best : goal.returns-then-is_outranked_by-clause-best
returns-then-is_outranked_by-clause-best c =
    let i = c.args.inputs.now in
    outranked_stays i.network.now i.base.now i.sessions.now c.args.ribs.now.rows c.args.router.0 c.args.peering.now.place c.args.of.now.prefix (link_view c.args.peering.now.adjacency.link) (sym c.requires.peering.link)
    c.in-Some.sent.now (sym (c.in-Some.ensures.best ∙ best_of_same c.args.ribs.now.rows c.args.of.now.prefix c.requires.peering.peer)) c.args.best.now (c.is_outranked_by.ensures c.if-is_outranked_by.true)

-- what is found is what the definitions give
pub returns-then-stays-clause-best : goal.returns-then-stays-clause-best
returns-then-stays-clause-best c =
    let i = c.args.inputs.now in
    stays_best c.feasible_over-found.result c.args.best.now (sym c.stays.ensures ∙ c.if-stays.true)
    ∙ ap (λ (o : Option Chosen). best_with o c.args.best.now)
    (c.feasible_over-found.ensures.feasible
    ∙ one_learnt i.network.now i.base.now i.sessions.now c.args.ribs.now.rows c.args.router.0 c.args.peering.now.place c.args.of.now.prefix (link_view c.args.peering.now.adjacency.link) c.requires.peering.link c.in-Some.sent.now (c.in-Some.ensures.best ∙ best_of_same c.args.ribs.now.rows c.args.of.now.prefix c.requires.peering.peer))

pub returns-clause-best : goal.returns-clause-best
returns-clause-best c =
    let i = c.args.inputs.now in
    takes_best c.feasible_over-found.result c.args.best.now (sym c.stays.ensures ∙ c.if-stays.false)
    ∙ ap (λ (o : Option Chosen). best_with o c.args.best.now)
    (c.feasible_over-found.ensures.feasible
    ∙ one_learnt i.network.now i.base.now i.sessions.now c.args.ribs.now.rows c.args.router.0 c.args.peering.now.place c.args.of.now.prefix (link_view c.args.peering.now.adjacency.link) c.requires.peering.link c.in-Some.sent.now (c.in-Some.ensures.best ∙ best_of_same c.args.ribs.now.rows c.args.of.now.prefix c.requires.peering.peer))

pub returns-clause-own : goal.returns-clause-own
returns-clause-own c before = own_found c.feasible_over-found.result c.in-Some.sent.now c.args.of.now.prefix c.feasible_over-found.ensures.own c.in-Some.ensures.own
