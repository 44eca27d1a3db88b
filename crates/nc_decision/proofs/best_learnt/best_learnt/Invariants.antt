use Rattle.std.proofs.Common.{◌≡◌, ◌≤◌, IfSome, drop, length}
use Rattle.nc_tables.specs.Rounds.{made_from, entry_at}
use Rattle.nc_decision.specs.BestPath.{best_among}
use Rattle.nc_message.specs.Inputs.{IsOf}
use Rattle.nc_decision.proofs.best_learnt.best_learnt.Given as goal

-- of the statements behind this place the best is found
abbrev pub invariant-neighbors : goal.invariant-neighbors
invariant-neighbors l = record {
  within : l.place ≤ length l.process.neighbors.items;
  best : l.best ≡ best_among (made_from (λ place n. entry_at l.inputs.network.now l.inputs.base.now l.inputs.sessions.now l.ribs.rows l.router.0 place l.of.prefix) l.place (drop l.place l.process.neighbors.items));
  own : IfSome l.best (IsOf l.of.prefix);
}

abbrev pub decreases-neighbors : goal.decreases-neighbors
decreases-neighbors l = l.place
