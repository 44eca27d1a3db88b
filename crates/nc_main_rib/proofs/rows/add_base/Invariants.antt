use Rattle.std.proofs.Common.{◌≡◌, ◌+◌, ◌++◌, drop}
use Rattle.nc_main_rib.specs.Sides.{base_rows}
use Rattle.nc_main_rib.proofs.rows.add_base.Given as goal

abbrev pub invariant-rows : goal.invariant-rows
invariant-rows l = record {
  at : l.place ≡ l.first + l.row-index;
  -- the rows so far and those that are left are all
  rows : l.main.items ++ base_rows l.prefix l.place (drop l.row-index l.rows) ≡ l.fn.main.items ++ base_rows l.prefix l.first l.rows;
}
