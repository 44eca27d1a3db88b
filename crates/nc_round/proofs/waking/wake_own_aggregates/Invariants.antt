use Rattle.std.proofs.Common.{◌≡◌, ◌++◌, map, drop}
use Rattle.nc_round.proofs.waking.wake_own_aggregates.Given as goal

-- what is woken so far and the rows of the aggregates that are left are all
abbrev pub invariant-aggregates : goal.invariant-aggregates
invariant-aggregates l =
    l.woken.items ++ map (λ p. (l.router, p)) (map (λ a. a.prefix) (drop l.aggregate-index l.aggregates)) ≡ l.fn.woken.items ++ map (λ p. (l.router, p)) (map (λ a. a.prefix) l.aggregates)
