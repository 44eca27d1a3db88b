use Rattle.std.proofs.Common.{◌<◌, All}
use Rattle.nc_trials.proofs.trial.positive.Given as goal

abbrev pub invariant-loop-size : goal.invariant-loop-size
invariant-loop-size l = All (λ size. 0 < size) l.kept.items
