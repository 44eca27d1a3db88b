-- The distances that are kept are those of their address.
use Rattle.std.specs.Prelude.{List}
use Rattle.std.specs.BTreeMap.{get_by}
use Rattle.std.specs.Option.{ForSome}
use Rattle.std.specs.Ordering.{nat_cmp}
use Rattle.nc_types.specs.Config.{ConfigView}
use Rattle.nc_types.specs.declared.addr.Addr.{Addr}
use Rattle.nc_tables.specs.declared.base.BaseRow.{BaseRow}
use Rattle.nc_underlay.specs.Distances.{AreDistances}
use Rattle.nc_underlay.specs.declared.kept.DistancesByAddr.{DistancesByAddr}

abbrev pub AreKept : List ConfigView → List (List BaseRow) → DistancesByAddr → Type 0
AreKept routers tables kept = (addr : Addr) → ForSome (get_by (λ a. nat_cmp addr.0 a.0) kept.tables) (AreDistances routers tables addr.0)
