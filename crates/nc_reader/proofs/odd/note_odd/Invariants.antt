use Rattle.std.proofs.Common.{◌≡◌, List, ◌++◌, map, take}
use Rattle.std.specs.List.{filter_map, flat_map}
use Rattle.nc_types.specs.Faults.{lowest}
use Rattle.nc_types.specs.declared.fault.Fault.{Fault}
use Rattle.nc_reader.specs.Configuration.{applied_by, odd_in, odd_fault}
use Rattle.nc_reader.specs.Parts.{part_view}
use Rattle.nc_reader.proofs.odd.note_odd.Given as goal

abbrev pub invariant-parts : goal.invariant-parts
invariant-parts l = (fs : List Fault) → l.initial.least ≡ lowest fs
    → l.least ≡ lowest (fs ++ filter_map (odd_fault (filter_map applied_by (map part_view l.parts))) (flat_map odd_in (map part_view (take l.part-index l.parts))))
