use Rattle.std.proofs.Common.{◌≡◌, ◌++◌, ℕ, [], List, eqb-true, sym, ap, ◌∙◌}
use Rattle.std.proofs.lemmas.List.{nil_from_length}
use Rattle.nc_decision.proofs.learnt.behind_all.Goals as goal

pub returns-then-is_empty : goal.returns-then-is_empty
returns-then-is_empty c =
    let none : c.args.numbers.now ≡ [] = nil_from_length c.args.numbers.now (eqb-true _ _ (sym c.is_empty.ensures ∙ c.if-is_empty.true)) in
    sym (ap (λ (l : List ℕ). l ++ c.args.path) none)
