use Rattle.nc_lines.proofs.WholeLines.{lines_end, held_and_fed}
use Rattle.nc_lines.proofs.laws.lines_end_at_feeds.Goals as goal

pub returns-clause-last : goal.returns-clause-last
returns-clause-last c = lines_end

pub returns-clause-more : goal.returns-clause-more
returns-clause-more c = held_and_fed
