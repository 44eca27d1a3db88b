use Rattle.std.proofs.Common.{take}
use Rattle.nc_suite.specs.Counts.{Adds, mark_in}
use Rattle.nc_suite.proofs.tally.Tally.take_touches.Given as goal

abbrev pub invariant-touches : goal.invariant-touches
invariant-touches l = Adds (mark_in (take l.touch-index l.touches)) l.self l.initial.self
