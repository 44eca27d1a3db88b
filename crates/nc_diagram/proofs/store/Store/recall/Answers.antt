use Rattle.std.proofs.Common.{IfSome, reverse, subst}
use Rattle.nc_diagram.specs.Operations.{IsAnswer}
use Rattle.nc_diagram.proofs.RecentLemmas.{answer-found}
use Rattle.nc_diagram.proofs.store.Store.recall.Goals as goal

pub invariant_of-self : goal.invariant_of-self
invariant_of-self c = (
  c.self.invariant.0,
  record {
    recent = λ q r h. c.self.invariant.1.recent q r (c.find.ensures.kept (q, r) h);
    conjunctions = c.self.invariant.1.conjunctions;
    disjunctions = c.self.invariant.1.disjunctions;
  },
)

pub returns-clause-answer : goal.returns-clause-answer
returns-clause-answer c =
    subst (λ d. IfSome c.find.result (IsAnswer d.nodes c.args.operator c.args.pair)) c.self.view_is
    (answer-found (reverse c.self.inside.nodes) c.self.inside.recent c.args.operator c.args.pair c.find.result c.self.invariant.1.recent c.find.ensures.found)
