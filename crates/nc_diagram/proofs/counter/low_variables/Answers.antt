use Rattle.std.proofs.Common.{sym, ap, ◌∙◌, ◌++◌, ◌∷◌, []}
use Rattle.nc_diagram.specs.Search.{low_variables}
use Rattle.nc_diagram.proofs.CounterLemmas.{lows-high, lows-low}
use Rattle.nc_diagram.proofs.counter.low_variables.Goals as goal
use Rattle.nc_diagram.proofs.counter.low_variables.Goals.{in-High, in-Low+in_ok-push-in-Low}

pub turns-init : goal.turns-init
unfolding low_variables
turns-init c = c.new-missing.ensures.items

pub turns-preserved : goal.turns-preserved
turns-preserved c =
    let turns = c.args.turns.now in
    let k = c.turns.turn-index in
    elim c.match-turn.branch [
      | in-High w ↦ rw w.missing-is (c.turns.invariant ∙ sym (lows-high turns k _ _ _ _ c.turns-test.true w.in-High.is))
      | in-Low+in_ok-push-in-Low w ↦ rw w.missing-is (w.in_ok-push-in-Low.ensures.items ∙ ap (λ vs. vs ++ w.in-Low.variable ∷ []) c.turns.invariant ∙ sym (lows-low turns k _ _ _ c.turns-test.true w.in-Low.is))
    ]
