-- What reading a part of a file returns where it is faulty.
use Rattle.std.specs.Prelude.{◌≡◌, ℕ, Option, Some, None, Result, Ok, Err}
use Rattle.std.specs.Option.{option_map_or}
use Rattle.nc_types.specs.Faults.{lower}
use Rattle.nc_types.specs.declared.fault.Fault.{Fault}
use Rattle.nc_types.specs.declared.fault.Cause.{Cause}
use Rattle.nc_types.specs.declared.fault.ConfigFault.{ConfigFault}
use Rattle.nc_types.specs.declared.fault.ConfigFault.TheVariants.{Bad, Memory}

-- a cause with its line
abbrev pub at_line : {A : Type 0} → ℕ → Result A Cause → Result A Fault
at_line line (Ok x) = Ok x
at_line line (Err cause) = Err (record { line = line; cause = cause })

-- a fault that was returned is this one, unless memory ran out
abbrev pub IsFault : {A : Type 0} → ConfigFault → Result A Fault → Type 0
IsFault (Bad line cause) read = read ≡ Err (record { line = line; cause = cause })
IsFault Memory read = Unit {0}

-- of two faults, where there are any, the one with the lower line
abbrev pub lower_of : Option Fault → Option Fault → Option Fault
lower_of None g = g
lower_of (Some f) g = Some (option_map_or (lower f) g f)
