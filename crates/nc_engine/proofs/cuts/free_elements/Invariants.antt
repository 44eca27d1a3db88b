use Rattle.std.proofs.Common.{◌≡◌, ◌++◌, drop}
use Rattle.nc_engine.specs.Cuts.{is_kept}
use Rattle.nc_engine.proofs.Cutting.{free_from}
use Rattle.nc_engine.proofs.cuts.free_elements.Given as goal

-- the elements of the routers so far, and those that are left
abbrev pub invariant-routers : goal.invariant-routers
invariant-routers l = l.free.items ++ free_from (is_kept l.network l.names) l.router (drop l.router l.network) ≡ free_from (is_kept l.network l.names) 0 l.network
