use Rattle.std.proofs.Common.{◌≡◌, ◌++◌, All, drop}
use Rattle.std.specs.List.{flat_map}
use Rattle.nc_tables.specs.LocRibs.{IsNumbered}
use Rattle.nc_round.specs.Rows.{listed, prefixes_of}
use Rattle.nc_round.specs.Waking.{affected_over}
use Rattle.nc_round.proofs.waking.add_affected.Given as goal

abbrev pub invariant-rows : goal.invariant-rows
invariant-rows l = record {
  -- what is noted so far and what is heard from the peers that are left are all
  prefixes : prefixes_of l.noted.items ++ flat_map (affected_over l.inputs l.ribs.rows (listed l.lists) l.router.0) (drop l.row-index l.rows)
      ≡ prefixes_of l.fn.noted.items ++ flat_map (affected_over l.inputs l.ribs.rows (listed l.lists) l.router.0) l.rows;
  numbers : All (IsNumbered l.ribs.prefixes) l.noted.items;
}
