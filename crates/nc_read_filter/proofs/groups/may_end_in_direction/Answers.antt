use Rattle.std.proofs.Common.{◌<◌, length, sym, ◌∙◌, arith}
use Rattle.nc_read_filter.proofs.Endings.{ends_nowhere, ends_otherwise, short_line}
use Rattle.nc_read_filter.proofs.groups.may_end_in_direction.Goals as goal

pub returns-in-None : goal.returns-in-None
returns-in-None c = λ _. ends_nowhere c.args.line.now c.in-None.ensures.value

pub returns-in-Some : goal.returns-in-Some
returns-in-Some c = λ e. ends_otherwise c.args.line.now c.in-Some.last.now c.in-Some.ensures.value (sym c.is_end.ensures ∙ e)

pub returns-then-line-lt-LEAST_LEN : goal.returns-then-line-lt-LEAST_LEN
returns-then-line-lt-LEAST_LEN c = λ _. let few : length c.args.line.now < 12 = omega arith in short_line c.args.line.now few
