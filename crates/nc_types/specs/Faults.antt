-- Which of several faults of a file is told.
use Rattle.std.specs.Prelude.{List, [], ◌∷◌, Option, Some, None, nat_le, if◌then◌else◌}
use Rattle.std.specs.Option.{option_map_or}
use Rattle.nc_types.specs.declared.fault.Fault.{Fault}

-- of two faults the one with the lower line
abbrev pub lower : Fault → Fault → Fault
lower f g = if nat_le f.line g.line then f else g

-- the fault with the lowest line, if there is one
abbrev pub lowest : List Fault → Option Fault
lowest [] = None
lowest (f ∷ fs) = Some (option_map_or (lower f) (lowest fs) f)
