use Rattle.nc_stable.proofs.Found.{found_state}
use Rattle.nc_stable.proofs.laws.settled_states_are_states.Goals as goal

pub returns : goal.returns
returns c routers rounds s valid few is = found_state routers valid few rounds s is
