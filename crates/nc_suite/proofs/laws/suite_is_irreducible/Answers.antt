use Rattle.nc_graph.proofs.WalkLemmas.{Contains-in}
use Rattle.nc_suite.proofs.SuiteLemmas.{suite-needs}
use Rattle.nc_suite.proofs.laws.suite_is_irreducible.Goals as goal

pub returns : goal.returns
returns g c = λ flow elements tests suite is place among. suite-needs flow elements tests suite is place (Contains-in suite place among)
