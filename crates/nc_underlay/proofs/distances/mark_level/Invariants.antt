use Rattle.std.proofs.Common.{◌≡◌, ℕ, ◌+◌, ◌<◌, ◌≤◌, List, false}
use Rattle.nc_types.specs.Config.{ConfigView}
use Rattle.nc_tables.specs.declared.base.BaseRow.{BaseRow}
use Rattle.nc_underlay.specs.Distances.{fewest_of, within, IsMarked, AreMarked}
use Rattle.nc_underlay.specs.Toward.{IsToward}
use Rattle.nc_underlay.proofs.distances.mark_level.Given as goal

abbrev pub invariant-routers : goal.invariant-routers
invariant-routers l = record {
  done : (routers : List ConfigView) (tables : List (List BaseRow)) (addr : ℕ) → IsToward routers tables addr l.toward → AreMarked (within routers tables addr) l.hops l.fn.fewest
      → (r : ℕ) → r < l.router → IsMarked (within routers tables addr) (l.hops + 1) (fewest_of l.fewest r) r;
  rest : (r : ℕ) → l.router ≤ r → fewest_of l.fewest r ≡ fewest_of l.fn.fewest r;
  same : l.more ≡ false → l.fewest ≡ l.fn.fewest;
}
