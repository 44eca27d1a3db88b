use Rattle.std.proofs.Common.{refl, sym, subst, inr}
use Rattle.nc_diagram.specs.Diagrams.{Diagrams}
use Rattle.nc_diagram.specs.Operations.{BothBelong, IsAnswer}
use Rattle.nc_diagram.proofs.ApplyLemmas.{both-ordered}
use Rattle.nc_diagram.proofs.store.Store.open.Goals as goal

pub returns-in-Some-find-clause-opens : goal.returns-in-Some-find-clause-opens
returns-in-Some-find-clause-opens c =
    let nodes = c.args.self.now.nodes in
    (refl, inr (subst (λ p. IsAnswer nodes c.args.operator p c.in-Some-find.place) c.ordered-pair.ensures.pair (c.in-Some-find.ensures nodes c.args.operator c.requires.right)))

pub descend-requires-clause-belong : goal.descend-requires-clause-belong
descend-requires-clause-belong c =
    let nodes = c.args.self.now.nodes in
    subst (λ (d : Diagrams). BothBelong d.nodes c.ordered-pair.result) (sym c.recall.ensures.unchanged)
    (subst (BothBelong nodes) (sym c.ordered-pair.ensures.pair) (both-ordered nodes c.args.pair c.requires.belong))
