use Rattle.nc_cut.proofs.LawLemmas.{one_least}
use Rattle.nc_cut.proofs.laws.law_of_one_least_cut.Goals as goal

pub returns : goal.returns
returns c = one_least
