-- The parts of a whole file, before they are put in order.
use Rattle.std.specs.Prelude.{◌≡◌, ℕ, List, [], map}
use Rattle.std.specs.List.{filter_map}
use Rattle.nc_types.specs.Faults.{lowest}
use Rattle.nc_reader.specs.declared.parts.Parts.{Parts}
use Rattle.nc_reader.specs.Roles.{roles_from}
use Rattle.nc_reader.specs.Configuration.{name_of, parts_of, faults_of}
use Rattle.nc_reader.specs.Parts.{part_view}
use Rattle.nc_reader.specs.Things.{ok_of}

-- these are the parts of a file
pub record AreParts (lines : List (List ℕ)) (p : Parts) : Type 0 where
  pub name : p.name ≡ name_of (roles_from [] lines)
  pub made : map part_view p.made.items ≡ filter_map ok_of (parts_of lines (roles_from [] lines))
  pub fault : p.fault ≡ lowest (faults_of lines (roles_from [] lines))
