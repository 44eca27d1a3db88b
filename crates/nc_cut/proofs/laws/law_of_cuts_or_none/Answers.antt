use Rattle.nc_cut.proofs.DecidingLemmas.{least_or_none}
use Rattle.nc_cut.proofs.laws.law_of_cuts_or_none.Goals as goal

pub returns : goal.returns
returns c = least_or_none
