use Rattle.nc_read_policy.proofs.LineLaws.{stated_lines, whole, apart}
use Rattle.nc_read_policy.proofs.laws.entries_have_lines.Goals as goal

pub returns-clause-lines : goal.returns-clause-lines
returns-clause-lines c = stated_lines

pub returns-clause-whole : goal.returns-clause-whole
returns-clause-whole c = whole

pub returns-clause-apart : goal.returns-clause-apart
returns-clause-apart c = apart
