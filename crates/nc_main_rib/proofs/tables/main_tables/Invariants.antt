use Rattle.std.proofs.Common.{◌≡◌, All, map}
use Rattle.std.specs.List.{range_with_len}
use Rattle.nc_tables.specs.Longest.{AreByPrefix}
use Rattle.nc_tables.specs.Main.{main_table}
use Rattle.nc_main_rib.proofs.tables.main_tables.Given as goal

abbrev pub invariant-routers : goal.invariant-routers
invariant-routers l = record {
  -- the tables of the routers so far
  tables : map (λ rows. rows.items) l.tables.items ≡ map (main_table l.network l.base l.bgp) (range_with_len 0 l.router);
  by_prefix : All (λ rows. AreByPrefix (λ row. row.prefix) rows.items) l.tables.items;
}
