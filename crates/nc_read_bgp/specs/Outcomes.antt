-- What reading a process returns.
use Rattle.std.specs.Prelude.{◌≡◌, ℕ, List, map, Result, Ok, Err}
use Rattle.std.specs.declared.alloc.Global.{Global}
use Rattle.std.specs.declared.vec.Vec.{Vec}
use Rattle.nc_types.specs.Config.{process_view}
use Rattle.nc_types.specs.declared.fault.Fault.{Fault}
use Rattle.nc_types.specs.declared.fault.ConfigFault.{ConfigFault}
use Rattle.nc_lines.specs.Outcomes.{IsFault}
use Rattle.nc_read_bgp.specs.Processes.{ProcessMade}
use Rattle.nc_read_bgp.specs.declared.processes.ProcessPart.{ProcessPart}

-- the lines of each of several elements
abbrev pub each_lines : Vec (Vec ℕ Global) Global → List (List ℕ)
each_lines lines = map (λ own. own.items) lines.items

-- a process with the lines of its elements
abbrev pub part_view : ProcessPart → ProcessMade
part_view p =
    record {
      process = process_view p.process;
      own = p.own.items;
      neighbors = each_lines p.neighbors;
      networks = each_lines p.networks;
      aggregates = each_lines p.aggregates;
    }

-- what was returned is this process, or this fault, unless memory ran out
abbrev pub IsProcess : Result ProcessPart ConfigFault → Result ProcessMade Fault → Type 0
IsProcess (Ok part) read = read ≡ Ok (part_view part)
IsProcess (Err fault) read = IsFault fault read
