use Rattle.nc_rules.specs.Rules.{flow_of}
use Rattle.nc_rules.specs.Sameness.{tells_apart}
use Rattle.nc_rules.proofs.rules.rules_make_a_flow.Goals as goal

pub returns : goal.returns
unfolding flow_of
returns c s is = record {
  same = tells_apart;
  below = c.rules_are_lawful.ensures.below s is;
  chosen = c.rules_are_lawful.ensures.chosen s is;
  bare = λ f e h. c.rules_are_lawful.ensures.bare s f e;
}
