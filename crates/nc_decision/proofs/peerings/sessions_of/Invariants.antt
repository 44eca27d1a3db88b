use Rattle.std.proofs.Common.{◌≡◌, ℕ, Option, Some, length, slice_get}
use Rattle.nc_decision.specs.declared.peerings.Peering.{Peering}
use Rattle.nc_decision.specs.Peerings.{IsPeeringAt}
use Rattle.nc_decision.proofs.peerings.sessions_of.Given as goal

-- the sessions of the places so far
abbrev pub invariant-places : goal.invariant-places
invariant-places l = record {
  count : length l.sessions.items ≡ l.place;
  each : (k : ℕ) (o : Option Peering) → slice_get l.sessions.items k ≡ Some o → IsPeeringAt l.inputs.network.now l.inputs.base.now l.inputs.sessions.now l.router.0 k o;
}
