use Rattle.std.proofs.Common.{List, ℕ, ◌∷◌, ap, ◌∙◌}
use Rattle.nc_lines.proofs.NumberLemmas.{address_of-parts, not_four}
use Rattle.nc_lines.proofs.numbers.cut_octets.Goals as goal

pub returns-in_err-first : goal.returns-in_err-first
returns-in_err-first c = rw c.from_residual.ensures (address_of-parts c.args.word.now _ c.in_err-first.ensures.parts)

pub returns-in_err-second : goal.returns-in_err-second
returns-in_err-second c = rw c.from_residual-in_err-second.ensures (address_of-parts c.args.word.now _ (c.in_ok-first.ensures.parts ∙ ap (λ (ps : List (List ℕ)). c.in_ok-first.first.now ∷ ps) c.in_err-second.ensures.parts))

pub returns-in_err-third : goal.returns-in_err-third
returns-in_err-third c =
    rw c.from_residual-in_err-third.ensures
    (address_of-parts c.args.word.now _ (c.in_ok-first.ensures.parts ∙ ap (λ (ps : List (List ℕ)). c.in_ok-first.first.now ∷ ps) c.in_ok-second.ensures.parts) ∙ not_four _ _ _ c.in_err-third.ensures)

pub returns : goal.returns
returns c =
    address_of-parts c.args.word.now _ (c.in_ok-first.ensures.parts ∙ ap (λ (ps : List (List ℕ)). c.in_ok-first.first.now ∷ ps) (c.in_ok-second.ensures.parts ∙ ap (λ (ps : List (List ℕ)). c.in_ok-second.second.now ∷ ps) c.in_ok-third.ensures))
