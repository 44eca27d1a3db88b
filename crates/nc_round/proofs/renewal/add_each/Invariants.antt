use Rattle.std.proofs.Common.{◌≡◌, ◌++◌, All, length, map, drop}
use Rattle.std.specs.List.{filter_map}
use Rattle.nc_round.specs.Renewing.{row_change, change_at, IsLocRibChange}
use Rattle.nc_round.specs.Rows.{numbered_row, row_key}
use Rattle.nc_round.proofs.renewal.add_each.Given as goal

abbrev pub invariant-noted : goal.invariant-noted
invariant-noted l = record {
  -- what is new so far and what is new of the prefixes that are left are all
  rows : map row_change l.changes.items ++ filter_map (change_at l.inputs l.ribs.rows) (map row_key (map (numbered_row l.router) (drop l.of-index l.noted)))
      ≡ map row_change l.fn.changes.items ++ filter_map (change_at l.inputs l.ribs.rows) (map row_key (map (numbered_row l.router) l.noted));
  changes : All (IsLocRibChange (length l.inputs.network.now) l.ribs.prefixes) l.changes.items;
}
