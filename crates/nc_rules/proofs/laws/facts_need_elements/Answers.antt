use Rattle.nc_rules.specs.Rules.{flow_of}
use Rattle.nc_types.specs.Network.{element_count}
use Rattle.nc_rules.proofs.Elements.{carried_by_none, carried_alike}
use Rattle.nc_rules.proofs.Rests.{conjunctive_rest, element_below}
use Rattle.nc_rules.proofs.laws.facts_need_elements.Goals as goal

pub returns-clause-none : goal.returns-clause-none
unfolding flow_of
returns-clause-none c = λ s is. carried_by_none (flow_of s) (c.rules_make_a_flow.ensures s is) (conjunctive_rest s is)

pub returns-clause-below : goal.returns-clause-below
unfolding flow_of
returns-clause-below c = λ s is. carried_alike (flow_of s) (c.rules_make_a_flow.ensures s is) (element_count s.routers) (element_below s)
