use Rattle.std.proofs.Common.{◌≤◌, length}
use Rattle.nc_marks.proofs.combine.shared_by.Given as goal

abbrev pub invariant-nodes : goal.invariant-nodes
invariant-nodes l = l.tail ≤ length l.sets.sets
