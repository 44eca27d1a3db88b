use Rattle.std.proofs.Common.{◌≡◌, ◌++◌, true}
use Rattle.nc_fact.specs.declared.fact.Fact.TheVariants.{Chosen}
use Rattle.nc_rules_route.proofs.Ranges.{made_between}
use Rattle.nc_rules_route.proofs.begun.push_row.Given as goal

-- the routes so far
abbrev pub invariant-places : goal.invariant-places
invariant-places l = l.into.items ≡ l.fn.into.items ++ made_between (Chosen l.router l.row.prefix.now) (λ _. true) l.initial.place l.place
