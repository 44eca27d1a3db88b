use Rattle.std.proofs.Common.{◌≡◌, ◌||◌, Bool, true, false, List, ℕ, sym, ap, ◌∙◌}
use Rattle.nc_types.specs.Communities.{has}
use Rattle.nc_community.proofs.SetLemmas.{all_has}
use Rattle.nc_community.proofs.held.Held.has.Goals as goal

pub returns-then-is_among : goal.returns-then-is_among
returns-then-is_among c =
    let k = c.args.community in
    let numbers : List ℕ = c.self.inside.numbers.now in
    let added : List ℕ = c.self.inside.added.now in
    let first : has k numbers ≡ true = sym c.is_among.ensures ∙ c.if-is_among.true in
    c.if-is_among.true ∙ sym (ap (has k) (sym c.self.view_is) ∙ all_has k numbers added ∙ ap (λ (t : Bool). t || has k added) first)

pub returns-else-is_among : goal.returns-else-is_among
returns-else-is_among c =
    let k = c.args.community in
    let numbers : List ℕ = c.self.inside.numbers.now in
    let added : List ℕ = c.self.inside.added.now in
    let first : has k numbers ≡ false = sym c.is_among.ensures ∙ c.if-is_among.false in
    c.is_among-else-is_among.ensures ∙ sym (ap (has k) (sym c.self.view_is) ∙ all_has k numbers added ∙ ap (λ (t : Bool). t || has k added) first)
