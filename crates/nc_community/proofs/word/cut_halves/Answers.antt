use Rattle.std.proofs.Common.{◌≡◌, ℕ, ◌+◌, ◌==◌, List, [], ◌∷◌, drop, take, sym, ap, ◌∙◌}
use Rattle.std.specs.List.{position}
use Rattle.nc_lines.proofs.LineLemmas.{split_missed, split_found, split_more}
use Rattle.nc_community.proofs.word.cut_halves.Goals as goal

pub returns-in_err-at : goal.returns-in_err-at
returns-in_err-at c =
    let whole = split_missed (λ (b : ℕ). b == 58) c.args.word.now (sym c.colon_place.ensures ∙ c.in_err-at.was) in
    rw c.from_residual.ensures (λ a b two. let clash : a ∷ b ∷ [] ≡ c.args.word.now ∷ [] = sym two ∙ whole in cc)

pub returns-in-Some : goal.returns-in-Some
returns-in-Some c =
    let p = λ (b : ℕ). b == 58 in
    let low : List ℕ = drop (c.in_ok-at.at + 1) c.args.word.now in
    let first = split_found p c.args.word.now c.in_ok-at.at (sym c.colon_place.ensures ∙ c.in_ok-at.was) in
    let second = split_found p low c.in-Some.field-0 (sym (c.colon_place-2.ensures ∙ ap (λ (w : List ℕ). position p w) c.split_at-2.ensures.back) ∙ c.in-Some.is) in
    split_more p c.args.word.now (take c.in_ok-at.at c.args.word.now) low (take c.in-Some.field-0 low) (drop (c.in-Some.field-0 + 1) low) first second

pub returns-in-None : goal.returns-in-None
returns-in-None c =
    let p = λ (b : ℕ). b == 58 in
    let low : List ℕ = drop (c.in_ok-at.at + 1) c.args.word.now in
    let first = split_found p c.args.word.now c.in_ok-at.at (sym c.colon_place.ensures ∙ c.in_ok-at.was) in
    let second = split_missed p low (sym (c.colon_place-2.ensures ∙ ap (λ (w : List ℕ). position p w) c.split_at-2.ensures.back) ∙ c.in-None.is) in
    rw (c.split_at.ensures.front, c.split_at-2.ensures.back) (first ∙ ap (λ (ps : List (List ℕ)). take c.in_ok-at.at c.args.word.now ∷ ps) second)
