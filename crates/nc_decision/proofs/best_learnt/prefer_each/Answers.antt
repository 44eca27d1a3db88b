use Rattle.std.proofs.Common.{◌≡◌, List, length, sym, ap, ◌∙◌, rules}
use Rattle.std.proofs.lemmas.List.{nil_from_length}
use Rattle.nc_tables.specs.declared.bgp.Chosen.{Chosen}
use Rattle.nc_decision.specs.BestPath.{best_from}
use Rattle.nc_decision.proofs.Preferred.{best_last}
use Rattle.nc_decision.proofs.best_learnt.prefer_each.Goals as goal

pub routes-preserved : goal.routes-preserved
routes-preserved c =
    let rest = c.pop.new.self.items in
    let route = c.in-Some.route in
    ap (best_from rest) c.prefer_one.ensures ∙ sym (best_last rest route c.routes.best)
    ∙ ap (λ (l : List Chosen). best_from l c.routes.best) (sym c.in-Some.ensures.items) ∙ c.routes.invariant

pub returns : goal.returns
returns c =
    let none : length c.routes.routes.items ≡ 0 = search rules in
    ap (λ (l : List Chosen). best_from l c.routes.best) (sym (nil_from_length c.routes.routes.items none)) ∙ c.routes.invariant
