use Rattle.std.proofs.Common.{◌≡◌, ℕ, Some, length}
use Rattle.std.specs.Prelude.{slice_get}
use Rattle.nc_types.specs.Config.{ConfigView}
use Rattle.nc_filter.specs.Tables.{IsOf}
use Rattle.nc_filter.specs.declared.tables.RouterFilters.{RouterFilters}
use Rattle.nc_filter.proofs.tables.FilterTables.new.Given as goal

-- the tables of the routers so far
abbrev pub invariant-routers : goal.invariant-routers
invariant-routers l = record {
  count : length l.routers.items ≡ l.config-index;
  each : (router : ℕ) (c : ConfigView) (filters : RouterFilters) → slice_get l.network router ≡ Some c → slice_get l.routers.items router ≡ Some filters → IsOf c filters;
}
