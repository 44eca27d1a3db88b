use Rattle.std.proofs.Common.{is_some, List, length, sym, ap}
use Rattle.nc_tables.specs.declared.bgp.SessionRow.{SessionRow}
use Rattle.nc_tables.specs.Sessions.{session_in}
use Rattle.nc_fact.proofs.Beyond.{beyond_by, no_sessions}
use Rattle.nc_fact.proofs.truth.has_session.Goals as goal

pub returns-then-not-has_router : goal.returns-then-not-has_router
returns-then-not-has_router c =
    sym (ap (λ (rows : List SessionRow). is_some (session_in rows c.args.place))
    (no_sessions c.args.state.now c.has_router.ensures.state c.args.router.0 (beyond_by c.has_router.result c.args.router.0 (length c.args.state.now.routers) c.has_router.ensures.within.1 c.if-not-has_router.true)))
