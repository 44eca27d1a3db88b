use Rattle.std.proofs.Common.{◌≡◌, true, All, subst}
use Rattle.nc_tables.specs.State.{StateView}
use Rattle.nc_fact.specs.Facts.{holds}
use Rattle.nc_rules.specs.Rules.{flow_of}
use Rattle.nc_engine.proofs.dead_elements.root_facts.Goals as goal

pub returns-clause-hold : goal.returns-clause-hold
unfolding flow_of
returns-clause-hold c = subst (λ (s : StateView). All (λ f. holds s f ≡ true) c.in_ok-facts.facts.items) c.state.ensures c.in_ok-facts.ensures.hold
