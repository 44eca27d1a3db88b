use Rattle.std.proofs.Common.{length}
use Rattle.nc_fact.proofs.Beyond.{beyond_by, no_routes}
use Rattle.nc_fact.proofs.all.bgp_rows.Goals as goal

pub returns-then-not-has_router-clause-none : goal.returns-then-not-has_router-clause-none
returns-then-not-has_router-clause-none c =
    let s = c.args.state.now in
    no_routes s c.has_router.ensures.state c.args.router.0 (beyond_by c.has_router.result c.args.router.0 (length s.routers) c.has_router.ensures.within.1 c.if-not-has_router.true)
