use Rattle.std.proofs.Common.{ℕ, Option, length, sym, ap, ◌∙◌}
use Rattle.std.specs.Prelude.{unwrap_or}
use Rattle.nc_lines.proofs.LineLemmas.{words_of-none, words_of-cut, rest_shorter}
use Rattle.nc_lines.proofs.cut.cut_word.Goals as goal

pub returns-in_err-start-clause-word : goal.returns-in_err-start-clause-word
returns-in_err-start-clause-word c = rw c.from_residual.ensures (words_of-none c.args.line.now (sym c.word_place.ensures ∙ c.in_err-start.was))

pub returns-clause-word : goal.returns-clause-word
returns-clause-word c =
    rw (c.split_at-2.ensures.front, c.split_at-2.ensures.back) (words_of-cut c.args.line.now c.split_at.result.1.now c.in_ok-start.start _ (sym c.word_place.ensures ∙ c.in_ok-start.was) c.split_at.ensures.back (c.unwrap_or-end.ensures ∙ ap (λ (o : Option ℕ). unwrap_or o (length c.split_at.result.1.now)) c.gap_place.ensures))

pub returns-clause-shorter : goal.returns-clause-shorter
returns-clause-shorter c =
    rw c.split_at-2.ensures.back (rest_shorter c.args.line.now c.split_at.result.1.now c.in_ok-start.start _ (sym c.word_place.ensures ∙ c.in_ok-start.was) c.split_at.ensures.back (c.unwrap_or-end.ensures ∙ ap (λ (o : Option ℕ). unwrap_or o (length c.split_at.result.1.now)) c.gap_place.ensures))
