use Rattle.std.proofs.Common.{◌≡◌, ◌++◌, All, filter, map, drop}
use Rattle.std.specs.List.{list_any}
use Rattle.nc_tables.specs.LocRibs.{IsNumbered}
use Rattle.nc_tables.specs.Rounds.{is_longer_in}
use Rattle.nc_round.specs.Rows.{prefixes_of}
use Rattle.nc_round.proofs.waking.add_around.Given as goal

abbrev pub invariant-aggregates : goal.invariant-aggregates
invariant-aggregates l = record {
  -- what is noted so far and the aggregates that are left are all
  prefixes : prefixes_of l.noted.items ++ map (λ a. a.prefix) (filter (λ a. list_any (λ q. is_longer_in q a.prefix) (prefixes_of l.changed)) (drop l.aggregate-index l.aggregates))
      ≡ prefixes_of l.fn.noted.items ++ map (λ a. a.prefix) (filter (λ a. list_any (λ q. is_longer_in q a.prefix) (prefixes_of l.changed)) l.aggregates);
  numbers : All (IsNumbered l.ribs.prefixes) l.noted.items;
}
