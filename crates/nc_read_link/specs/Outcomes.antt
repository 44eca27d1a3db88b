-- What reading a part of a configuration returns.
use Rattle.std.specs.Prelude.{◌≡◌, ℕ, Result, Ok, Err}
use Rattle.std.specs.declared.alloc.Global.{Global}
use Rattle.std.specs.declared.vec.Vec.{Vec}
use Rattle.nc_types.specs.declared.fault.Fault.{Fault}
use Rattle.nc_types.specs.declared.config.Interface.{Interface}
use Rattle.nc_types.specs.declared.config.StaticRoute.{StaticRoute}
use Rattle.nc_types.specs.declared.fault.ConfigFault.{ConfigFault}
use Rattle.nc_lines.specs.Outcomes.{IsFault}
use Rattle.nc_read_link.specs.Interfaces.{InterfacePart}

-- what was returned is this interface with its lines, or this fault, unless memory ran out
abbrev pub IsInterface : Result (Interface × Vec ℕ Global) ConfigFault → Result InterfacePart Fault → Type 0
IsInterface (Ok part) read = read ≡ Ok (record { interface = part.0; lines = part.1.items })
IsInterface (Err fault) read = IsFault fault read

-- what was returned is this static route, or this fault, unless memory ran out
abbrev pub IsStatic : Result StaticRoute ConfigFault → Result StaticRoute Fault → Type 0
IsStatic (Ok route) read = read ≡ Ok route
IsStatic (Err fault) read = IsFault fault read
