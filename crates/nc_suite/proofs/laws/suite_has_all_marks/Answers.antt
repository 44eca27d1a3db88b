use Rattle.nc_suite.proofs.SuiteLemmas.{suite-marks}
use Rattle.nc_suite.proofs.laws.suite_has_all_marks.Goals as goal

pub returns : goal.returns
returns g c = λ flow elements tests suite is. suite-marks flow elements tests suite is
