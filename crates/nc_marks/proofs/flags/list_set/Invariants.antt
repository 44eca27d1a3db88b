use Rattle.std.proofs.Common.{take}
use Rattle.nc_marks.specs.Sets.{has, Lists}
use Rattle.nc_marks.proofs.flags.list_set.Given as goal

abbrev pub invariant-elements : goal.invariant-elements
invariant-elements l = Lists l.flags (has (take l.element-index l.set)) l.initial.list.items l.list.items
