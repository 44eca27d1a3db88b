use Rattle.std.proofs.Common.{take}
use Rattle.nc_suite.specs.Counts.{AreSpared, mark_in}
use Rattle.nc_suite.proofs.tally.Tally.spare_touches.Given as goal

abbrev pub invariant-touches : goal.invariant-touches
invariant-touches l = AreSpared (mark_in (take l.touch-index l.touches)) l.self
