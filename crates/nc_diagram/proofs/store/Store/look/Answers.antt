use Rattle.std.proofs.Common.{inl, inr, refl, sym, ◌∙◌}
use Rattle.nc_diagram.proofs.CounterLemmas.{Entails-false, Entails-true, Entails-same}
use Rattle.nc_diagram.proofs.store.Store.look.Goals as goal
use Rattle.nc_diagram.proofs.store.Store.look.Goals.{then-pair-eq0-via-then-pair-eq0, then-pair-eq0-via-else-pair-eq0+then-pair-eq1, then-pair-eq0-via-else-pair-eq0+else-pair-eq1+then-pair, then-pair-eq0-via-else-pair-eq0+else-pair-eq1+else-pair+then-contains}

pub returns-then-pair-eq0 : goal.returns-then-pair-eq0
returns-then-pair-eq0 c =
    let nodes = c.args.self.now.nodes in (
      refl,
      refl,
      elim c.then-pair-eq0.branch [
        | then-pair-eq0-via-then-pair-eq0 w ↦ inl (Entails-false nodes c.args.pair w.if-pair-eq0.true)
        | then-pair-eq0-via-else-pair-eq0+then-pair-eq1 w ↦ inl (Entails-true nodes c.args.pair w.if-pair-eq1.true)
        | then-pair-eq0-via-else-pair-eq0+else-pair-eq1+then-pair w ↦ inl (Entails-same nodes c.args.pair w.if-pair.true)
        | then-pair-eq0-via-else-pair-eq0+else-pair-eq1+else-pair+then-contains w ↦ inr (sym w.contains.ensures ∙ w.if-contains.true)
      ],
    )
