use Rattle.std.proofs.Common.{◌≡◌, ◌++◌, true}
use Rattle.nc_fact.specs.declared.fact.Fact.TheVariants.{AllStep}
use Rattle.nc_rules_route.proofs.Ranges.{made_between}
use Rattle.nc_rules_route.proofs.paths.push_all_trace.Given as goal

-- the alternatives so far
abbrev pub invariant-ways : goal.invariant-ways
invariant-ways l = l.into.items ≡ l.fn.into.items ++ made_between (λ way. AllStep l.router l.addr way l.hops) (λ _. true) l.initial.place l.place
