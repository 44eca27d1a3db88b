-- What reading a file returns.
use Rattle.std.specs.Prelude.{◌≡◌, Result, Ok, Err}
use Rattle.nc_types.specs.Config.{ConfigView, config_view}
use Rattle.nc_types.specs.declared.fault.Fault.{Fault}
use Rattle.nc_types.specs.declared.config.RouterConfig.{RouterConfig}
use Rattle.nc_types.specs.declared.fault.ConfigFault.{ConfigFault}
use Rattle.nc_lines.specs.Outcomes.{IsFault}

-- what was returned is this configuration or fault, unless memory ran out
abbrev pub IsConfiguration : Result RouterConfig ConfigFault → Result ConfigView Fault → Type 0
IsConfiguration (Ok c) read = read ≡ Ok (config_view c)
IsConfiguration (Err fault) read = IsFault fault read
