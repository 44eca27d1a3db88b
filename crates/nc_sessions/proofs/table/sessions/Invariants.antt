use Rattle.std.proofs.Common.{◌≡◌, All, map}
use Rattle.std.specs.List.{range_with_len}
use Rattle.nc_tables.specs.Sessions.{sessions_of, AreSessions}
use Rattle.nc_underlay.specs.Kept.{AreKept}
use Rattle.nc_sessions.proofs.table.sessions.Given as goal

-- the sessions of the routers so far
abbrev pub invariant-routers : goal.invariant-routers
invariant-routers l = record {
  kept : AreKept l.network l.base l.distances;
  rows : map (λ rows. rows.items) l.rows.items ≡ map (sessions_of l.network l.base) (range_with_len 0 l.router);
  each : All (λ rows. AreSessions rows.items) l.rows.items;
}
