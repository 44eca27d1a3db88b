use Rattle.std.proofs.Common.{◌≡◌, ℕ, Option, Some, length, slice_get}
use Rattle.std.specs.Global.{Vec}
use Rattle.nc_message.specs.declared.adjacencies.Sender.{Sender}
use Rattle.nc_message.specs.Adjacencies.{AreOfSessions, AreSenders}
use Rattle.nc_message.proofs.adjacencies.Adjacencies.new.Given as goal

-- the senders to the routers so far
abbrev pub invariant-routers : goal.invariant-routers
invariant-routers l = record {
  count : length l.routers.items ≡ l.router;
  each : (k : ℕ) (row : Vec (Option Sender)) → slice_get l.routers.items k ≡ Some row → AreSenders l.network l.base l.sessions k row.items;
  all : (k : ℕ) (row : Vec (Option Sender)) → slice_get l.routers.items k ≡ Some row → AreOfSessions l.network l.sessions k row.items;
}
