use Rattle.std.proofs.Common.{◌≡◌, ◌≤◌, [], get_or, length}
use Rattle.nc_marks.specs.Sets.{followed}
use Rattle.nc_marks.proofs.sets.Sets.list_front.Given as goal

abbrev pub invariant-parts : goal.invariant-parts
invariant-parts l = record {
  within : l.tail ≤ length l.self.sets;
  parts : get_or l.self.sets l.place [] ≡ followed l.self.sets l.tail l.list.items;
}

abbrev pub decreases-parts : goal.decreases-parts
decreases-parts l = l.tail
