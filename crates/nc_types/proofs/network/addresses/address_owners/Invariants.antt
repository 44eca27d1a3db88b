use Rattle.std.proofs.Common.{◌≡◌, ℕ, drop}
use Rattle.std.specs.Option.{option_or}
use Rattle.nc_types.specs.Tables.{owner_by}
use Rattle.nc_types.proofs.Addressing.{ifaces_from}
use Rattle.nc_types.proofs.network.addresses.address_owners.Given as goal

-- the owners so far, and then those of the routers that are left
abbrev pub invariant-routers : goal.invariant-routers
invariant-routers l = (addr : ℕ) → option_or (owner_by l.owners addr) (ifaces_from l.router (drop l.router l.routers) addr) ≡ ifaces_from 0 l.routers addr
