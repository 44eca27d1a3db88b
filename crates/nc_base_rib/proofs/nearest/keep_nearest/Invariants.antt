use Rattle.std.proofs.Common.{◌≡◌, All, filter, take}
use Rattle.nc_types.specs.Cidr.{IsCidr}
use Rattle.nc_tables.specs.Base.{is_nearest}
use Rattle.nc_base_rib.proofs.Keeping.{LastIs}
use Rattle.nc_base_rib.proofs.nearest.keep_nearest.Given as goal

abbrev pub invariant-rows : goal.invariant-rows
invariant-rows l = record {
  nearest : l.kept.items ≡ filter (is_nearest l.rows) (take l.row-index l.rows);
  valid : All (λ row. IsCidr row.prefix.base row.prefix.len) l.kept.items;
  last : LastIs l.rows l.row-index l.last;
}
