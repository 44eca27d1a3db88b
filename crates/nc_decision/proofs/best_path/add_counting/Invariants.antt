use Rattle.std.proofs.Common.{◌≡◌, ◌++◌, filter, not, drop}
use Rattle.nc_decision.specs.BestPath.{leaves_best_path}
use Rattle.nc_decision.proofs.best_path.add_counting.Given as goal

-- what is noted so far and what counts of the prefixes that are left are all
abbrev pub invariant-changed : goal.invariant-changed
invariant-changed l =
    l.noted.items ++ filter (λ n. not (leaves_best_path l.inputs.network.now l.inputs.base.now l.inputs.sessions.now l.ribs.rows l.router.0 l.place n.prefix)) (drop l.of-index l.changed)
    ≡ l.fn.noted.items ++ filter (λ n. not (leaves_best_path l.inputs.network.now l.inputs.base.now l.inputs.sessions.now l.ribs.rows l.router.0 l.place n.prefix)) l.changed
