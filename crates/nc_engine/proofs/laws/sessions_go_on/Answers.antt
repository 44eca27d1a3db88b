use Rattle.nc_rules.specs.Rules.{flow_of}
use Rattle.nc_engine.proofs.GoingOn.{session_goes_on}
use Rattle.nc_engine.proofs.laws.sessions_go_on.Goals as goal

pub returns : goal.returns
returns c n state =
    let lawful = c.rules_make_a_flow.ensures n.state state in
    session_goes_on n (c.strong_is_evaluation.ensures.is (flow_of n.state) lawful) (c.some_is_evaluation.ensures.is (flow_of n.state) lawful)
    (c.carrying_is_evaluation.ensures.is (flow_of n.state) lawful) c.law_of_all_but.ensures
    (c.closures_have_one_length.ensures.exists (flow_of n.state) lawful) (c.closures_have_one_length.ensures.more (flow_of n.state) lawful)
    (c.roots_are_those_that_hold.ensures n.state state) c.law_of_cuts_or_none.ensures
