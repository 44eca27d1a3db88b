use Rattle.std.proofs.Common.{◌++◌, ◌∷◌, [], ℕ, ◌+◌, ◌-◌, List, codes, ap, ◌∙◌}
use Rattle.nc_gen.specs.Files.{text_of, reach_line, every_line, asked_address}
use Rattle.nc_gen.proofs.TextLemmas.{then-text, one-line}
use Rattle.nc_gen.proofs.generated.session_text.Goals as goal

pub returns : goal.returns
returns c =
    let asked = asked_address c.args.tree in
    let there = codes "implies 2 1" in
    let back = codes "implies 1 2" in
    then-text [] _ _ (reach_line asked ∷ []) (every_line asked ∷ there ∷ back ∷ [])
    (one-line [] _ _ (reach_line asked) (c.in_ok-push_line.ensures ∙ ap (λ (o : List ℕ). o ++ text_of (c.as_bytes.result.now ∷ [])) c.new-out.ensures.items)
    (c.as_bytes.ensures.value ∙ c.in_ok-reach.ensures ∙ ap (λ (start : ℕ). reach_line (start - 256 + 9)) c.lan_start.ensures.start))
    (then-text _ _ _ (every_line asked ∷ []) (there ∷ back ∷ [])
    (one-line _ _ _ (every_line asked) c.in_ok-push_line-2.ensures
    (c.as_bytes-2.ensures.value ∙ c.in_ok-every.ensures ∙ ap (λ (start : ℕ). every_line (start - 256 + 9)) c.lan_start.ensures.start))
    (then-text _ _ _ (there ∷ []) (back ∷ []) c.in_ok-push_line-3.ensures c.in_ok-push_line-4.ensures))
