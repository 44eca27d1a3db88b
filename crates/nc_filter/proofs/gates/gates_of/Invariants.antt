use Rattle.std.proofs.Common.{◌≡◌, map, take}
use Rattle.nc_types.specs.Config.{config_view}
use Rattle.nc_filter.specs.Gates.{gate_by}
use Rattle.nc_filter.proofs.gates.gates_of.Given as goal

-- the filters of the interfaces so far
abbrev pub invariant-interfaces : goal.invariant-interfaces
invariant-interfaces l = l.gates.items ≡ map (gate_by (config_view l.config) l.inward) (take l.interface-index l.config.interfaces.items)
