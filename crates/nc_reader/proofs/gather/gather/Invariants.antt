use Rattle.nc_reader.specs.Gathering.{sketch}
use Rattle.nc_reader.proofs.GatherLemmas.{IsSoFar}
use Rattle.nc_reader.proofs.gather.gather.Given as goal

abbrev pub invariant-loop-above : goal.invariant-loop-above
invariant-loop-above l = IsSoFar l.lines l.above (sketch l.draft)
