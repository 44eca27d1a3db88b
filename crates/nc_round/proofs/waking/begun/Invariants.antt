use Rattle.std.proofs.Common.{◌≡◌, ◌++◌, drop}
use Rattle.nc_round.specs.Waking.{begun_from}
use Rattle.nc_round.proofs.waking.begun.Given as goal

-- what is woken so far and what the routers that are left begin are all
abbrev pub invariant-routers : goal.invariant-routers
invariant-routers l = l.woken.items ++ begun_from l.router (drop l.router l.network) ≡ begun_from 0 l.network
