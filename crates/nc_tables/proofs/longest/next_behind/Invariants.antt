use Rattle.std.proofs.Common.{◌≡◌, zero, ◌-◌, ◌≤◌, true, length}
use Rattle.std.specs.List.{AllWithin}
use Rattle.std.specs.Ordering.{is_le}
use Rattle.nc_tables.specs.Base.{prefix_cmp}
use Rattle.nc_tables.proofs.longest.next_behind.Given as goal

abbrev pub invariant-rows : goal.invariant-rows
invariant-rows g l = record {
  -- no row so far has a later prefix
  passed : AllWithin (λ row. is_le (prefix_cmp (g.R.HasPrefix.prefix_of row) l.prefix) ≡ true) l.rows zero l.at;
  within : l.at ≤ length l.rows;
}

abbrev pub decreases-rows : goal.decreases-rows
decreases-rows g l = length l.rows - l.at
