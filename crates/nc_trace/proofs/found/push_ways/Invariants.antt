use Rattle.std.proofs.Common.{◌≡◌, ◌≤◌, ℕ, ◌++◌, Some, length, map, take, drop, slice_get}
use Rattle.std.specs.List.{All}
use Rattle.nc_types.specs.declared.config.RouterId.{RouterId}
use Rattle.std.specs.Option.{ForSome}
use Rattle.nc_filter.specs.Tables.{AreFilters}
use Rattle.nc_trace.specs.Found.{GoesTo, IsListedOrNone, all_from, ways_out}
use Rattle.nc_trace.specs.Views.{alternative_view}
use Rattle.nc_trace.proofs.found.push_ways.Given as goal

abbrev pub invariant-ways : goal.invariant-ways
invariant-ways l = record {
  before : take (length l.fn.ways.items) l.ways.items ≡ l.fn.ways.items;
  long : length l.fn.ways.items ≤ length l.ways.items;
  all : map alternative_view l.ways.items ++ all_from l.state l.fn.packet.from l.fn.packet.to.0 l.fn.router.0 l.left ≡ map alternative_view l.fn.ways.items ++ ways_out l.state l.fn.packet l.fn.router.0;
  tables : ForSome l.tables (AreFilters l.state.routers);
  kept : (place : ℕ) (router : RouterId) → slice_get l.fn.list.items place ≡ Some router → slice_get l.list.items place ≡ Some router;
  listed : All (λ way. GoesTo (IsListedOrNone (length l.state.routers) l.list.items) way.outcome) (drop (length l.fn.ways.items) (map alternative_view l.ways.items));
}

abbrev pub decreases-ways : goal.decreases-ways
decreases-ways l = length l.left
