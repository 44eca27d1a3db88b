use Rattle.nc_session.proofs.OneOutput.{one_output}
use Rattle.nc_session.proofs.laws.output_is_one.Goals as goal

pub returns : goal.returns
returns c = one_output c.configurations_are_well_formed.ensures c.settled_states_are_states.ensures c.rules_make_a_flow.ensures c.closures_have_one_length.ensures.length c.law_of_all_but.ensures
