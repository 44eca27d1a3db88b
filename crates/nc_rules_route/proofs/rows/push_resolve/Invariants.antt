use Rattle.std.proofs.Common.{◌≡◌, ◌++◌}
use Rattle.nc_tables.specs.Reach.{is_hit}
use Rattle.nc_fact.specs.declared.fact.Fact.TheVariants.{Base}
use Rattle.nc_rules_route.proofs.Ranges.{made_between}
use Rattle.nc_rules_route.proofs.rows.push_resolve.Given as goal

-- the hits so far
abbrev pub invariant-rows : goal.invariant-rows
invariant-rows l = l.into.items ≡ l.fn.into.items ++ made_between (Base l.router) (is_hit l.state.base l.router.0) l.initial.place l.place
