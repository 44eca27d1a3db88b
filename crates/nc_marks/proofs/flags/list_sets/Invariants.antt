use Rattle.std.proofs.Common.{take}
use Rattle.nc_marks.specs.Sets.{in_some, Lists}
use Rattle.nc_marks.proofs.flags.list_sets.Given as goal

abbrev pub invariant-nodes : goal.invariant-nodes
invariant-nodes l = Lists l.flags (in_some l.sets l.places (take l.node-index l.nodes)) l.initial.list.items l.list.items
