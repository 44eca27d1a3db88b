use Rattle.nc_reader.proofs.WellFormedLemmas.{well_formed}
use Rattle.nc_reader.proofs.laws.configurations_are_well_formed.Goals as goal

pub returns : goal.returns
returns c = well_formed
