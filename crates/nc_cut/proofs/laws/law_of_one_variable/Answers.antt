use Rattle.nc_cut.proofs.FirstLemmas.{one_variable}
use Rattle.nc_cut.proofs.laws.law_of_one_variable.Goals as goal

pub returns : goal.returns
returns c = one_variable
