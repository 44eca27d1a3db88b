use Rattle.nc_tables.specs.declared.base.BaseRow.{BaseRow}
use Rattle.nc_tables.specs.Base.{same_prefix}
use Rattle.nc_fact.specs.Facts.{base_rows}
use Rattle.nc_message.proofs.Lists.{placed_between}
use Rattle.nc_fact.proofs.bgp.has_source.Goals as goal

pub returns : goal.returns
returns c =
    placed_between (λ (row : BaseRow). same_prefix row.prefix c.args.prefix) (base_rows c.args.state.now c.args.router.0) c.rows_of_prefix-rows.result.from c.rows_of_prefix-rows.result.to c.rows_of_prefix-rows.ensures.rows
