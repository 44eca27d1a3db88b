use Rattle.std.proofs.Common.{List, All, sym, subst}
use Rattle.nc_types.specs.Config.{ConfigView}
use Rattle.nc_types.specs.WellFormed.{IsWellFormed}
use Rattle.nc_sessions.specs.Views.{end_view}
use Rattle.nc_rules_route.proofs.Ends.{elements_exist}
use Rattle.nc_rules_route.proofs.sessions.push_end.Goals as goal

pub element_id-process-requires-clause-place : goal.element_id-process-requires-clause-place
element_id-process-requires-clause-place c x is =
    let each = subst (λ (cs : List ConfigView). All IsWellFormed cs) (sym c.network-network.ensures.network) c.network-network.ensures.state.valid.each in
    (elements_exist c.network-network.result.now each c.args.router.0 c.args.place (end_view c.in-Some.end) (sym c.in-Some.ensures.end) x is).0

pub element_id-statement-requires-clause-place : goal.element_id-statement-requires-clause-place
element_id-statement-requires-clause-place c x is =
    let each = subst (λ (cs : List ConfigView). All IsWellFormed cs) (sym c.network-network.ensures.network) c.network-network.ensures.state.valid.each in
    (elements_exist c.network-network.result.now each c.args.router.0 c.args.place (end_view c.in-Some.end) (sym c.in-Some.ensures.end) x is).1
