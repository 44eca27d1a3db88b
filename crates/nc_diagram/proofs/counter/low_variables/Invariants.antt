use Rattle.std.proofs.Common.{◌≡◌, take}
use Rattle.nc_diagram.specs.Search.{low_variables}
use Rattle.nc_diagram.proofs.counter.low_variables.Given as goal

abbrev pub invariant-turns : goal.invariant-turns
invariant-turns l = l.missing.items ≡ low_variables (take l.turn-index l.turns)
