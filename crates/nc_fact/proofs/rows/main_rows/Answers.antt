use Rattle.std.proofs.Common.{length, sym}
use Rattle.nc_fact.proofs.Beyond.{beyond_by, no_main}
use Rattle.nc_fact.proofs.rows.main_rows.Goals as goal

pub returns-then-not-has_router-clause-rows : goal.returns-then-not-has_router-clause-rows
returns-then-not-has_router-clause-rows c =
    sym (no_main c.args.state.now c.has_router.ensures.state c.args.router.0 (beyond_by c.has_router.result c.args.router.0 (length c.args.state.now.routers) c.has_router.ensures.within.1 c.if-not-has_router.true))
