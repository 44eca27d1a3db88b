use Rattle.std.proofs.Common.{List, length, ap}
use Rattle.nc_fact.specs.declared.fact.Fact.{Fact}
use Rattle.nc_rules_route.proofs.FlowLaws.{parents_below, parents_some, parents_none, session_rests}
use Rattle.nc_rules_route.proofs.laws.rules_are_lawful.Goals as goal

pub returns-clause-below : goal.returns-clause-below
returns-clause-below c = parents_below

pub returns-clause-chosen : goal.returns-clause-chosen
returns-clause-chosen c = parents_some

pub returns-clause-whole : goal.returns-clause-whole
returns-clause-whole c = λ s is router place h. ap (λ (ps : List Fact). length ps) (session_rests s is router place h).2

pub returns-clause-bare : goal.returns-clause-bare
returns-clause-bare c = parents_none
