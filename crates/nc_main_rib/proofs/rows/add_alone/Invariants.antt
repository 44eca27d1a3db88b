use Rattle.std.proofs.Common.{◌≡◌, ◌≤◌, ◌++◌, All, length}
use Rattle.nc_types.specs.declared.TheConstants.{MULTIPATH_LIMIT}
use Rattle.nc_main_rib.specs.Sides.{learnt_of}
use Rattle.nc_main_rib.proofs.rows.add_alone.Given as goal

abbrev pub invariant-rows : goal.invariant-rows
invariant-rows l = record {
  -- the rows so far and what is learnt of those that are left are all
  rows : l.main.items ++ learnt_of l.rows ≡ l.fn.main.items ++ learnt_of l.fn.rows;
  few : All (λ row. length row.chosen ≤ MULTIPATH_LIMIT) l.rows;
}

abbrev pub decreases-rows : goal.decreases-rows
decreases-rows l = length l.rows
