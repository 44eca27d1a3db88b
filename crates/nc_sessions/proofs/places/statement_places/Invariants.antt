use Rattle.std.proofs.Common.{◌≡◌, ◌<◌, ℕ, length, slice_get, option_and_then}
use Rattle.nc_tables.specs.Sessions.{place_for}
use Rattle.nc_sessions.specs.Statements.{place_by}
use Rattle.nc_sessions.proofs.places.statement_places.Given as goal

-- each router so far has its table
abbrev pub invariant-routers : goal.invariant-routers
invariant-routers l = record {
  count : length l.places.items ≡ l.router;
  each : (router addr : ℕ) → router < l.router → option_and_then (λ places. place_by places addr) (slice_get l.places.items router) ≡ place_for l.network router addr;
}
