use Rattle.std.proofs.Common.{◌≡◌, ◌++◌, true, filter}
use Rattle.nc_fact.specs.declared.fact.Fact.TheVariants.{FlowStep}
use Rattle.nc_fact.specs.Facts.{holds}
use Rattle.nc_rules_route.proofs.Ranges.{made_between}
use Rattle.nc_rules_route.proofs.flows.push_flow.Given as goal

-- the alternatives so far by which the packet is let pass and arrives
abbrev pub invariant-ways : goal.invariant-ways
invariant-ways l = l.into.items ≡ l.fn.into.items ++ filter (holds l.state) (made_between (λ way. FlowStep l.hops l.router l.from l.to way) (λ _. true) l.initial.place l.place)
