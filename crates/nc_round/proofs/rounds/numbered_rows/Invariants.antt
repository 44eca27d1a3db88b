use Rattle.std.proofs.Common.{◌≡◌, ◌++◌, map, drop}
use Rattle.nc_round.specs.Rows.{row_key, rows_among, AreRows}
use Rattle.nc_round.proofs.rounds.numbered_rows.Given as goal

abbrev pub invariant-keys : goal.invariant-keys
invariant-keys l = record {
  -- the rows so far and those of what is left are all
  keys : map row_key l.rows.items ++ rows_among l.ribs.prefixes (drop l.key-index l.keys) ≡ rows_among l.ribs.prefixes l.keys;
  numbers : AreRows l.ribs.prefixes l.rows.items;
}
