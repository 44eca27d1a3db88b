use Rattle.std.proofs.Common.{List, length, ap, sym}
use Rattle.nc_tables.specs.Rounds.{BgpRowView, chosen_in}
use Rattle.nc_fact.proofs.Beyond.{beyond_by, no_routes}
use Rattle.nc_fact.proofs.bgp.chosen_at.Goals as goal

pub returns-then-not-has_router-clause-chosen : goal.returns-then-not-has_router-clause-chosen
returns-then-not-has_router-clause-chosen c =
    sym (ap (λ (rows : List BgpRowView). chosen_in rows c.args.prefix)
    (no_routes c.args.state.now c.has_router.ensures.state c.args.router.0 (beyond_by c.has_router.result c.args.router.0 (length c.args.state.now.routers) c.has_router.ensures.within.1 c.if-not-has_router.true)))
