use Rattle.std.proofs.Common.{List, length, ap, sym}
use Rattle.nc_tables.specs.Rounds.{BgpRowView, has_longer}
use Rattle.nc_fact.proofs.Beyond.{beyond_by, no_routes}
use Rattle.nc_fact.proofs.bgp.is_active.Goals as goal

pub returns-then-not-has_router : goal.returns-then-not-has_router
returns-then-not-has_router c =
    sym (ap (λ (rows : List BgpRowView). has_longer rows c.args.aggregate.now.prefix)
    (no_routes c.args.state.now c.has_router.ensures.state c.args.router.0 (beyond_by c.has_router.result c.args.router.0 (length c.args.state.now.routers) c.has_router.ensures.within.1 c.if-not-has_router.true)))
