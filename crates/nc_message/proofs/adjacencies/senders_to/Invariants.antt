use Rattle.std.proofs.Common.{◌≡◌, ℕ, Option, Some, length, slice_get}
use Rattle.nc_message.specs.declared.adjacencies.Sender.{Sender}
use Rattle.std.specs.Prelude.{is_some}
use Rattle.nc_tables.specs.Rounds.{link_at}
use Rattle.nc_message.specs.Adjacencies.{IsSenderAt}
use Rattle.nc_message.proofs.adjacencies.senders_to.Given as goal

-- the senders to the places so far
abbrev pub invariant-places : goal.invariant-places
invariant-places l = record {
  count : length l.row.items ≡ l.place;
  each : (k : ℕ) (o : Option Sender) → slice_get l.row.items k ≡ Some o → IsSenderAt l.network l.base l.sessions l.router.0 k o;
  known : (k : ℕ) (o : Option Sender) → slice_get l.row.items k ≡ Some o → is_some o ≡ is_some (link_at l.network l.sessions l.router.0 k);
}
