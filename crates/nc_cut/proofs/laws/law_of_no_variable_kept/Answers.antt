use Rattle.nc_cut.proofs.LawLemmas.{some_cut}
use Rattle.nc_cut.proofs.laws.law_of_no_variable_kept.Goals as goal

pub returns : goal.returns
returns c = some_cut
