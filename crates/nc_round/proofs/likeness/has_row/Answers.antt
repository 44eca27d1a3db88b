use Rattle.nc_tables.specs.declared.base.BaseRow.{BaseRow}
use Rattle.nc_tables.specs.Base.{same_prefix}
use Rattle.nc_tables.specs.Reach.{rows_of}
use Rattle.nc_message.proofs.Lists.{placed_between}
use Rattle.nc_round.proofs.likeness.has_row.Goals as goal

pub returns : goal.returns
returns c =
    placed_between (λ (row : BaseRow). same_prefix row.prefix c.args.prefix) (rows_of c.args.base.now c.args.router.0) c.rows_of-rows.result.from c.rows_of-rows.result.to c.rows_of-rows.ensures.rows
