use Rattle.std.proofs.Common.{◌≡◌, ◌++◌, map, take}
use Rattle.nc_formula.specs.declared.walk.Task.TheVariants.{Need}
use Rattle.nc_formula.proofs.walk.need_all.Given as goal

abbrev pub invariant-loop-node : goal.invariant-loop-node
invariant-loop-node l = l.tasks.items ≡ l.initial.tasks.items ++ map Need (take l.node-index l.nodes)
