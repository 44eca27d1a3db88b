use Rattle.nc_fact.proofs.RootsOrder.{roots_before, roots_differ}
use Rattle.nc_fact.proofs.all.roots_are_in_order.Goals as goal

pub returns-clause-order : goal.returns-clause-order
returns-clause-order c s is = roots_before s is

pub returns-clause-once : goal.returns-clause-once
returns-clause-once c s is = roots_differ s is
