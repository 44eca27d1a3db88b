use Rattle.std.proofs.Common.{◌∙◌, List, ℕ, take, length, ap}
use Rattle.nc_lines.proofs.WholeLines.{return_front}
use Rattle.nc_lines.proofs.line_end.line_len.Goals as goal

pub returns-clause-front : goal.returns-clause-front
returns-clause-front c = ap (λ (l : List ℕ). take (length l) c.args.line.now) c.trim_return.ensures ∙ return_front c.args.line.now
