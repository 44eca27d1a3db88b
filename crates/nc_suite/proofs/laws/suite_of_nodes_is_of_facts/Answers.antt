use Rattle.nc_suite.proofs.LiftLemmas.{suite-lifted}
use Rattle.nc_suite.proofs.laws.suite_of_nodes_is_of_facts.Goals as goal

pub returns : goal.returns
returns g c = λ flow law n is m ids tests are elements suite leaves. suite-lifted flow law n is m ids tests are elements suite leaves
