use Rattle.std.proofs.Common.{◌≡◌}
use Rattle.nc_fact.specs.declared.fact.Fact.TheVariants.{Chosen}
use Rattle.nc_fact.specs.Facts.{holds}
use Rattle.nc_fact.proofs.ByPlace.{facts_below}
use Rattle.nc_fact.proofs.tested.asked_routes.Given as goal

-- the facts of the places so far
abbrev pub invariant-places : goal.invariant-places
invariant-places l = l.facts.items ≡ facts_below (holds l.state) (Chosen l.router l.prefix) l.place
