use Rattle.std.proofs.Common.{◌≡◌, ℕ, drop}
use Rattle.std.specs.Option.{option_or}
use Rattle.nc_types.specs.Tables.{owner_by, iface_from}
use Rattle.nc_types.proofs.network.addresses.claim_addresses.Given as goal

-- the owners so far, and then the interfaces that are left
abbrev pub invariant-interfaces : goal.invariant-interfaces
invariant-interfaces l = (addr : ℕ) → option_or (owner_by l.owners addr) (iface_from l.router.0 l.place (drop l.place l.interfaces) addr) ≡ option_or (owner_by l.fn.owners addr) (iface_from l.router.0 0 l.interfaces addr)
