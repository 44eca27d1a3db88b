use Rattle.std.proofs.Common.{◌≡◌, ◌++◌, map, drop}
use Rattle.serde_json.specs.View.{view}
use Rattle.nc_report.specs.Values.{router_data}
use Rattle.nc_report.proofs.object.router_values.Given as goal

-- the objects so far and those of the routers that are left are all objects
abbrev pub invariant-routers : goal.invariant-routers
invariant-routers l = map view l.values.items ++ map router_data (drop l.router l.listing) ≡ map router_data l.listing
