use Rattle.std.proofs.Common.{◌≡◌, ◌<◌, All}
use Rattle.std.specs.List.{filter_map, range_with_len}
use Rattle.nc_tables.specs.Sessions.{session_at, AreSessions}
use Rattle.nc_underlay.specs.Kept.{AreKept}
use Rattle.nc_sessions.proofs.table.sessions_of.Given as goal

-- the sessions of the places so far
abbrev pub invariant-places : goal.invariant-places
invariant-places l = record {
  kept : AreKept l.network l.base l.distances;
  rows : l.rows.items ≡ filter_map (session_at l.network l.base l.router.0) (range_with_len 0 l.place);
  ordered : AreSessions l.rows.items;
  below : All (λ row. row.neighbor < l.place) l.rows.items;
}
