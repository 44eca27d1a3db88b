use Rattle.std.proofs.Common.{◌≡◌, ◌++◌, true, filter}
use Rattle.nc_fact.specs.declared.fact.Fact.TheVariants.{Step}
use Rattle.nc_fact.specs.Facts.{holds}
use Rattle.nc_rules_route.proofs.Ranges.{made_between}
use Rattle.nc_rules_route.proofs.paths.push_trace.Given as goal

-- the alternatives so far by which the packet arrives
abbrev pub invariant-ways : goal.invariant-ways
invariant-ways l = l.into.items ≡ l.fn.into.items ++ filter (holds l.state) (made_between (λ way. Step l.router l.addr way l.hops) (λ _. true) l.initial.place l.place)
