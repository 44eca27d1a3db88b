use Rattle.std.proofs.Common.{[], ◌≡◌, map, ap, ◌∙◌, slice_index_or, Vec, Global}
use Rattle.nc_tables.specs.declared.bgp.MainRow.{MainRow}
use Rattle.nc_tables.specs.Main.{AreMainRows}
use Rattle.nc_tables.proofs.RowsAt.{holds_at}
use Rattle.nc_tables.proofs.mains.MainTables.rows.Goals as goal

rows_are : (c : goal.After-rows_at) → AreMainRows c.rows_at.result.now
rows_are c =
    let items = λ (rows : Vec MainRow Global). rows.items in
    let router = c.args.router.0 in
    let is : c.rows_at.result.now ≡ slice_index_or c.args.self.now router [] = c.rows_at.ensures ∙ ap (λ ts. slice_index_or (map items ts) router []) c.deref.ensures.value ∙ ap (λ v. slice_index_or v router []) c.self.view_is in
    holds_at AreMainRows items c.self.inside.rows.items c.args.self.now router c.rows_at.result.now c.self.view_is c.requires is c.self.invariant

pub returns-clause-ordered : goal.returns-clause-ordered
returns-clause-ordered c = (rows_are c).by_prefix

pub returns-clause-few : goal.returns-clause-few
returns-clause-few c = (rows_are c).few
