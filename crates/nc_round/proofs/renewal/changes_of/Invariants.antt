use Rattle.std.proofs.Common.{◌≡◌, ◌++◌, All, length, map, drop}
use Rattle.std.specs.List.{filter_map}
use Rattle.nc_round.specs.Renewing.{row_change, change_at, IsLocRibChange}
use Rattle.nc_round.specs.Rows.{row_key}
use Rattle.nc_round.proofs.renewal.changes_of.Given as goal

abbrev pub invariant-rows : goal.invariant-rows
invariant-rows l = record {
  -- what is new so far and what is new of the rows that are left are all
  rows : map row_change l.changes.items ++ filter_map (change_at l.inputs l.ribs.rows) (map row_key (drop l.row-index l.rows)) ≡ filter_map (change_at l.inputs l.ribs.rows) (map row_key l.rows);
  changes : All (IsLocRibChange (length l.inputs.network.now) l.ribs.prefixes) l.changes.items;
}
