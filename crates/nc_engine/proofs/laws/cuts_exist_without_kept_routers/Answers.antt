use Rattle.nc_rules.specs.Rules.{flow_of}
use Rattle.nc_engine.proofs.Cuttable.{some-cut}
use Rattle.nc_engine.proofs.laws.cuts_exist_without_kept_routers.Goals as goal

pub returns : goal.returns
returns c s state fact facts hold uncut =
    let lawful = c.rules_make_a_flow.ensures s state in
    some-cut (flow_of s) (c.carrying_is_evaluation.ensures.is (flow_of s) lawful) s.routers (c.facts_need_elements.ensures.none s state) (c.facts_need_elements.ensures.below s state)
    c.law_of_no_variable_kept.ensures fact facts hold uncut
