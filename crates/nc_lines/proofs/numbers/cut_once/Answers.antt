use Rattle.std.proofs.Common.{◌==◌}
use Rattle.nc_lines.proofs.LineLemmas.{split_more}
use Rattle.nc_lines.proofs.numbers.cut_once.Goals as goal

pub returns-in-Some : goal.returns-in-Some
returns-in-Some c = split_more (λ b. b == c.args.byte) c.args.word.now _ _ _ _ c.in_ok-before.ensures.parts c.in-Some.ensures.parts
