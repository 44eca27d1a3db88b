use Rattle.std.proofs.Common.{◌≡◌, length}
use Rattle.nc_decision.specs.BestPath.{best_from}
use Rattle.nc_decision.proofs.best_learnt.prefer_each.Given as goal

-- what is left and the best so far give the best
abbrev pub invariant-routes : goal.invariant-routes
invariant-routes l = best_from l.routes.items l.best ≡ best_from l.fn.routes.items l.fn.best

abbrev pub decreases-routes : goal.decreases-routes
decreases-routes l = length l.routes.items
