use Rattle.std.proofs.Common.{◌≡◌, ◌<◌, ◌≤◌, ℕ, true, Some, length, slice_get}
use Rattle.std.specs.Option.{ForSome}
use Rattle.nc_types.specs.declared.config.RouterId.{RouterId}
use Rattle.nc_filter.specs.Tables.{AreFilters}
use Rattle.nc_trace.specs.Found.{AreWays, LeadTo, IsCoveredOrListed, covers}
use Rattle.nc_trace.proofs.Growing.{IsDone}
use Rattle.nc_trace.proofs.found.Found.find_all.Given as goal

-- the routers so far are done, and what was found leads to some of those that are found or listed
abbrev pub invariant-routers : goal.invariant-routers
invariant-routers l = record {
  room : length l.state.routers ≤ length l.self;
  ways : AreWays l.state l.fn.packet l.self;
  tables : ForSome l.tables (AreFilters l.state.routers);
  leads : LeadTo l.state l.fn.packet (IsCoveredOrListed (length l.state.routers) l.list.items l.self) l.self;
  done : (place : ℕ) → place < l.place → IsDone (length l.state.routers) l.list.items l.self place;
  more : (other : ℕ) → covers l.fn.self other ≡ true → covers l.self other ≡ true;
  kept : (place : ℕ) (router : RouterId) → slice_get l.fn.list.items place ≡ Some router → slice_get l.list.items place ≡ Some router;
}
