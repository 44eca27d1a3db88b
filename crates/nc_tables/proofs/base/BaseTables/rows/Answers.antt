use Rattle.std.proofs.Common.{[], ◌≡◌, map, ap, ◌∙◌, slice_index_or, Vec, Global}
use Rattle.nc_tables.specs.declared.base.BaseRow.{BaseRow}
use Rattle.nc_tables.specs.Base.{AreRows}
use Rattle.nc_tables.proofs.RowsAt.{holds_at}
use Rattle.nc_tables.proofs.base.BaseTables.rows.Goals as goal

rows_are : (c : goal.After-rows_at) → AreRows c.rows_at.result.now
rows_are c =
    let items = λ (rows : Vec BaseRow Global). rows.items in
    let router = c.args.router.0 in
    let is : c.rows_at.result.now ≡ slice_index_or c.args.self.now router [] = c.rows_at.ensures ∙ ap (λ ts. slice_index_or (map items ts) router []) c.deref.ensures.value ∙ ap (λ v. slice_index_or v router []) c.self.view_is in
    holds_at AreRows items c.self.inside.rows.items c.args.self.now router c.rows_at.result.now c.self.view_is c.requires is c.self.invariant

pub returns-clause-ordered : goal.returns-clause-ordered
returns-clause-ordered c = (rows_are c).ordered

pub returns-clause-valid : goal.returns-clause-valid
returns-clause-valid c = (rows_are c).valid
