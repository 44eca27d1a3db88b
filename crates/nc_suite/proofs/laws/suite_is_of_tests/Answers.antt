use Rattle.nc_suite.proofs.SuiteLemmas.{suite-ascends, suite-within}
use Rattle.nc_suite.proofs.laws.suite_is_of_tests.Goals as goal

pub returns-clause-ascends : goal.returns-clause-ascends
returns-clause-ascends g c = λ flow elements tests suite is. suite-ascends flow elements tests suite is

pub returns-clause-within : goal.returns-clause-within
returns-clause-within g c = λ flow elements tests suite is. suite-within flow elements tests suite is
