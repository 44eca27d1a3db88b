use Rattle.std.proofs.Common.{sym, ap, ◌∙◌}
use Rattle.nc_lines.specs.Lines.{first_byte}
use Rattle.nc_lines.proofs.LineLemmas.{words_of-none}
use Rattle.nc_lines.proofs.FirstLemmas.{first_by_place, idle_by_byte}
use Rattle.nc_lines.proofs.cut.first_byte.Goals as goal

pub returns-in_err-start-clause-byte : goal.returns-in_err-start-clause-byte
returns-in_err-start-clause-byte c = rw c.from_residual.ensures (sym (ap first_byte (words_of-none c.args.line.now (sym c.word_place.ensures ∙ c.in_err-start.was))))

pub returns-in_err-start-clause-comment : goal.returns-in_err-start-clause-comment
returns-in_err-start-clause-comment c = rw c.from_residual.ensures (words_of-none c.args.line.now (sym c.word_place.ensures ∙ c.in_err-start.was))

pub returns-clause-byte : goal.returns-clause-byte
returns-clause-byte c = sym (first_by_place c.args.line.now c.in_ok-start.start (sym c.word_place.ensures ∙ c.in_ok-start.was))

pub returns-clause-comment : goal.returns-clause-comment
returns-clause-comment c = idle_by_byte c.args.line.now c.in_ok-start.start (sym c.word_place.ensures ∙ c.in_ok-start.was)
