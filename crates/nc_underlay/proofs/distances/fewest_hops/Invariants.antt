use Rattle.std.proofs.Common.{ℕ, ◌-◌, ◌≤◌, List}
use Rattle.nc_types.specs.Config.{ConfigView}
use Rattle.nc_tables.specs.declared.base.BaseRow.{BaseRow}
use Rattle.nc_underlay.specs.Distances.{within, AreMarked}
use Rattle.nc_underlay.specs.Toward.{IsToward}
use Rattle.nc_underlay.proofs.distances.fewest_hops.Given as goal

abbrev pub invariant-levels : goal.invariant-levels
invariant-levels l = record {
  marked : (routers : List ConfigView) (tables : List (List BaseRow)) (addr : ℕ) → IsToward routers tables addr l.toward → AreMarked (within routers tables addr) l.hops l.fewest;
  upto : l.hops ≤ 31;
}

abbrev pub decreases-levels : goal.decreases-levels
decreases-levels l = 31 - l.hops
