use Rattle.nc_read_bgp.proofs.LowestLemmas.{lowest_is_told}
use Rattle.nc_read_bgp.proofs.laws.lowest_faults_of_processes_are_told.Goals as goal

pub returns : goal.returns
returns c = lowest_is_told
