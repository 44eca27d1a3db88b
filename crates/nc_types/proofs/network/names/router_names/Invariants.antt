use Rattle.std.proofs.Common.{◌≡◌, ℕ, List, drop}
use Rattle.std.specs.Option.{option_or}
use Rattle.nc_types.specs.Tables.{named_by}
use Rattle.nc_types.proofs.Naming.{named_from}
use Rattle.nc_types.proofs.network.names.router_names.Given as goal

-- the names so far, and then those of the routers that are left
abbrev pub invariant-routers : goal.invariant-routers
invariant-routers l = (name : List ℕ) → option_or (named_by l.names name) (named_from l.router (drop l.router l.routers) name) ≡ named_from 0 l.routers name
