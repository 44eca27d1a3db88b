use Rattle.nc_suite.proofs.DeadLemmas.{no-node-dead}
use Rattle.nc_suite.proofs.laws.no_node_is_dead.Goals as goal

pub returns : goal.returns
returns g c = λ flow law n is m roots closure elements listed missed. no-node-dead flow law n m roots closure elements listed missed
