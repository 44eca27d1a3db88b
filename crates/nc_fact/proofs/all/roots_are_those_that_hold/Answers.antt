use Rattle.nc_fact.proofs.Roots.{roots_hold}
use Rattle.nc_fact.proofs.all.roots_are_those_that_hold.Goals as goal

pub returns : goal.returns
returns c s is fact = roots_hold s is fact
