use Rattle.std.proofs.Common.{◌≤◌, ◌+◌, length}
use Rattle.nc_marks.proofs.combine.shared.Given as goal

abbrev pub invariant-parts : goal.invariant-parts
invariant-parts l = record {
  one : l.one ≤ length l.sets.sets;
  other : l.other ≤ length l.sets.sets;
}

abbrev pub decreases-parts : goal.decreases-parts
decreases-parts l = l.one + l.other
