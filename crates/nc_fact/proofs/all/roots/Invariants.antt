use Rattle.std.proofs.Common.{◌≡◌}
use Rattle.std.specs.List.{flat_map, range_with_len}
use Rattle.nc_fact.specs.Roots.{roots_of}
use Rattle.nc_fact.proofs.all.roots.Given as goal

-- the roots of the routers so far
abbrev pub invariant-routers : goal.invariant-routers
invariant-routers l = l.facts.items ≡ flat_map (roots_of l.state) (range_with_len 0 l.router)
