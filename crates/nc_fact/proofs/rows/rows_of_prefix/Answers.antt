use Rattle.std.proofs.Common.{length, List, ap}
use Rattle.nc_tables.specs.declared.base.BaseRow.{BaseRow}
use Rattle.nc_tables.specs.Base.{same_prefix}
use Rattle.nc_tables.specs.Longest.{places_from}
use Rattle.nc_fact.proofs.Beyond.{beyond_by, no_base}
use Rattle.nc_fact.proofs.rows.rows_of_prefix.Goals as goal

pub returns-then-not-has_router-clause-rows : goal.returns-then-not-has_router-clause-rows
returns-then-not-has_router-clause-rows c =
    ap (λ (rows : List BaseRow). places_from (λ (row : BaseRow). same_prefix row.prefix c.args.prefix) 0 rows)
    (no_base c.args.state.now c.has_router.ensures.state c.args.router.0 (beyond_by c.has_router.result c.args.router.0 (length c.args.state.now.routers) c.has_router.ensures.within.1 c.if-not-has_router.true))
