use Rattle.nc_filter.proofs.Wildcards.{lawful}
use Rattle.nc_filter.proofs.laws.matching_is_lawful.Goals as goal

pub returns : goal.returns
returns c entry addr = lawful entry addr
