use Rattle.std.proofs.Common.{◌^◌, ◌<◌, [], List, length, get_or, ap, arith}
use Rattle.nc_types.specs.Network.{element_count}
use Rattle.nc_tables.specs.declared.base.BaseRow.{BaseRow}
use Rattle.nc_tables.specs.CaseRelations.{state_base}
use Rattle.nc_tables.proofs.RowCount.{few_base_rows}
use Rattle.nc_trace.proofs.left.base_rows_toward.Goals as goal

pub returns-clause-few : goal.returns-clause-few
returns-clause-few c =
    let counted = ap element_count c.network.ensures.network in
    let count : element_count c.args.state.now.routers < 2 ^ 32 = omega (arith, counted, c.element_count-count.ensures.few) in
    let same = ap (λ (ts : List (List BaseRow)). length (get_or ts c.args.router.0 [])) (state_base c.args.state.now c.base.ensures.state) in
    let own = ap (λ (ts : List (List BaseRow)). length (get_or ts c.args.router.0 [])) c.base.ensures.base in
    omega (arith, same, own, few_base_rows c.args.state.now.routers c.base.ensures.state.valid count c.args.router.0, c.longest.ensures.within)
