use Rattle.std.proofs.Common.{◌<◌, ◌^◌, length, ap, arith, get_or, [], List}
use Rattle.nc_types.specs.Network.{element_count}
use Rattle.nc_tables.specs.declared.base.BaseRow.{BaseRow}
use Rattle.nc_fact.proofs.Few.{few_rows}
use Rattle.nc_fact.proofs.rows.base_rows.Goals as goal

pub returns-clause-few : goal.returns-clause-few
returns-clause-few c =
    let counted = ap element_count c.network-network.ensures.network in
    let count : element_count c.args.state.now.routers < 2 ^ 32 = omega (arith, counted, c.element_count-count.ensures.few) in
    let rows = ap (λ (rs : List BaseRow). length rs) c.base_rows.ensures in
    let table = ap (λ (ts : List (List BaseRow)). length (get_or ts c.args.router.0 [])) c.base.ensures.base in
    omega (arith, rows, table, few_rows c.args.state.now c.base.ensures.state count c.args.router.0)
