use Rattle.std.proofs.Common.{◌≡◌, List, ◌++◌, take}
use Rattle.std.specs.List.{filter_map}
use Rattle.nc_types.specs.Faults.{lowest}
use Rattle.nc_types.specs.declared.fault.Fault.{Fault}
use Rattle.nc_reader.specs.Configuration.{odd_fault}
use Rattle.nc_reader.proofs.odd.with_all_odd.Given as goal

abbrev pub invariant-odd : goal.invariant-odd
invariant-odd l = (fs : List Fault) → l.initial.least ≡ lowest fs → l.least ≡ lowest (fs ++ filter_map (odd_fault l.names.keys) (take l.line-index l.odd))
