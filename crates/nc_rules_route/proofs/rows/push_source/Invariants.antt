use Rattle.std.proofs.Common.{◌≡◌, ◌++◌, true}
use Rattle.nc_fact.specs.declared.fact.Fact.TheVariants.{Base}
use Rattle.nc_rules_route.proofs.Ranges.{made_between}
use Rattle.nc_rules_route.proofs.rows.push_source.Given as goal

-- the rows so far
abbrev pub invariant-rows : goal.invariant-rows
invariant-rows l = l.into.items ≡ l.fn.into.items ++ made_between (Base l.router) (λ _. true) l.initial.place l.place
