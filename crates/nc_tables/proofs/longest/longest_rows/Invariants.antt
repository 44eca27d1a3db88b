use Rattle.std.proofs.Common.{◌≤◌}
use Rattle.nc_tables.proofs.LongestPrefix.{AreShorter}
use Rattle.nc_tables.proofs.longest.longest_rows.Given as goal

abbrev pub invariant-lengths : goal.invariant-lengths
invariant-lengths g l = record {
  -- each prefix that covers the address is shorter than the length
  short : AreShorter g.R.HasPrefix.prefix_of l.addr.0 l.len l.rows;
  within : l.len ≤ 33;
}

abbrev pub decreases-lengths : goal.decreases-lengths
decreases-lengths g l = l.len
