use Rattle.nc_diagram.specs.Operations.{ordered}
use Rattle.nc_diagram.proofs.apply.Pair.ordered.Goals as goal

pub returns-clause-pair : goal.returns-clause-pair
unfolding ordered
returns-clause-pair c = λ i. record { left = c.min.ensures i; right = c.max.ensures i }
