use Rattle.std.proofs.Common.{◌≡◌, ◌++◌, filter}
use Rattle.nc_tables.specs.Reach.{is_hit}
use Rattle.nc_underlay.specs.Kept.{AreKept}
use Rattle.nc_fact.specs.declared.fact.Fact.TheVariants.{Hop}
use Rattle.nc_fact.specs.Facts.{holds}
use Rattle.nc_rules_route.proofs.Ranges.{made_between}
use Rattle.nc_rules_route.proofs.reach.push_hops.Given as goal

-- the hops so far
abbrev pub invariant-rows : goal.invariant-rows
invariant-rows l = record {
  kept : AreKept l.state.routers l.state.base l.distances;
  hops : l.into.items ≡ l.fn.into.items ++ filter (holds l.state) (made_between (λ row. Hop l.router l.addr row l.hops) (is_hit l.state.base l.router.0) l.initial.place l.place);
}
