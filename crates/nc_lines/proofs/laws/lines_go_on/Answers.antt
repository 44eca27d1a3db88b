use Rattle.nc_lines.proofs.WholeLines.{lines_go_on}
use Rattle.nc_lines.proofs.laws.lines_go_on.Goals as goal

pub returns : goal.returns
returns c = lines_go_on
