use Rattle.std.proofs.Common.{◌≡◌, List, Some, sym, ap, ◌∙◌}
use Rattle.nc_types.specs.Config.{ConfigView}
use Rattle.nc_tables.specs.declared.bgp.SessionRow.{SessionRow}
use Rattle.nc_tables.specs.Rounds.{link_at}
use Rattle.nc_sessions.specs.Views.{link_view}
use Rattle.nc_rules_route.proofs.ElementFacts.{session_pushed}
use Rattle.nc_rules_route.proofs.sessions.push_session.Goals as goal

pub returns-in_ok-extend_from_slice-clause-ok : goal.returns-in_ok-extend_from_slice-clause-ok
returns-in_ok-extend_from_slice-clause-ok c =
    let s = c.args.state.now in
    let router = c.args.router in
    let k = link_view c.in-Some.link in
    let found : link_at s.routers s.sessions router.0 c.args.place ≡ Some k =
    ap (λ (cs : List ConfigView). link_at cs s.sessions router.0 c.args.place) (sym c.network.ensures.network)
    ∙ ap (λ (rows : List (List SessionRow)). link_at c.network.result.now rows router.0 c.args.place) (sym c.sessions.ensures.sessions) ∙ sym c.in-Some.ensures in
    session_pushed s router c.args.place k found c.args.into.now.items _ _ _ c.in_ok-push_end.ensures.ok c.in_ok-push_end-2.ensures.ok c.in_ok-extend_from_slice.ensures.items
