use Rattle.std.proofs.Common.{◌==◌, sym, ◌∙◌}
use Rattle.nc_lines.proofs.LineLemmas.{split_missed, split_found}
use Rattle.nc_lines.proofs.cut.cut_at.Goals as goal

pub returns-in_err-at-clause-parts : goal.returns-in_err-at-clause-parts
returns-in_err-at-clause-parts c = rw c.from_residual.ensures (split_missed (λ b. b == c.args.byte) c.args.bytes.now (sym c.place_of.ensures ∙ c.in_err-at.was))

pub returns-clause-parts : goal.returns-clause-parts
returns-clause-parts c = rw (c.split_at.ensures.front, c.split_at-2.ensures.back) (split_found (λ b. b == c.args.byte) c.args.bytes.now c.in_ok-at.at (sym c.place_of.ensures ∙ c.in_ok-at.was))
