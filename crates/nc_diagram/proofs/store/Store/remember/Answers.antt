use Rattle.std.proofs.Common.{reverse, sym, subst}
use Rattle.nc_diagram.specs.Operations.{IsAnswer}
use Rattle.nc_diagram.proofs.RecentLemmas.{answers-noted}
use Rattle.nc_diagram.proofs.store.Store.remember.Goals as goal

pub invariant_of-self : goal.invariant_of-self
invariant_of-self c =
    let nodes = reverse c.self.inside.nodes in (
      c.self.invariant.0,
      record {
        recent = answers-noted nodes c.self.inside.recent c.note.new.self c.args.operator c.args.pair c.args.place c.self.invariant.1.recent
            (subst (λ d. IsAnswer d.nodes c.args.operator c.args.pair c.args.place) (sym c.self.view_is) c.requires)
            c.note.ensures;
        conjunctions = c.self.invariant.1.conjunctions;
        disjunctions = c.self.invariant.1.disjunctions;
      },
    )
