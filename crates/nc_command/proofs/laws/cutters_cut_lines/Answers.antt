use Rattle.nc_command.proofs.CutLemmas.{cuts_lines}
use Rattle.nc_command.proofs.laws.cutters_cut_lines.Goals as goal

pub returns : goal.returns
returns c = cuts_lines
