use Rattle.std.proofs.Common.{◌≡◌, ℕ, Some, length, slice_get}
use Rattle.nc_decision.specs.Peerings.{ArePeerings, RouterPeerings}
use Rattle.nc_decision.proofs.peerings.NetworkPeerings.of.Given as goal

-- those of the routers so far
abbrev pub invariant-routers : goal.invariant-routers
invariant-routers l = record {
  count : length l.routers.items ≡ l.router;
  each : (k : ℕ) (p : RouterPeerings) → slice_get l.routers.items k ≡ Some p → ArePeerings l.inputs.network.now l.inputs.base.now l.inputs.sessions.now k p;
}
