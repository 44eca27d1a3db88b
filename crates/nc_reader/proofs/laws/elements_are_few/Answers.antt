use Rattle.nc_reader.proofs.WellFormedLemmas.{few}
use Rattle.nc_reader.proofs.laws.elements_are_few.Goals as goal

pub returns : goal.returns
returns c = few
