use Rattle.std.proofs.Common.{◌≡◌, All, map, take}
use Rattle.nc_types.specs.Config.{config_view}
use Rattle.nc_tables.specs.Base.{AreRows, base_table}
use Rattle.nc_base_rib.proofs.tables.base_tables.Given as goal

abbrev pub invariant-routers : goal.invariant-routers
invariant-routers l = record {
  tables : map (λ rows. rows.items) l.tables.items ≡ map base_table (map config_view (take l.config-index l.config-items));
  rows : All (λ rows. AreRows rows.items) l.tables.items;
}
