use Rattle.std.proofs.Common.{◌++◌, ◌≤◌, List, drop, length}
use Rattle.std.specs.List.{filter_map}
use Rattle.nc_types.specs.Joining.{Used}
use Rattle.nc_network.specs.Steps.{used_of, Heads, by_address}
use Rattle.nc_network.proofs.addresses.note_all.Given as goal

abbrev pub invariant-interfaces : goal.invariant-interfaces
invariant-interfaces l = record {
  within : l.at ≤ length l.interfaces;
  heads : (later : List Used) → Heads by_address l.initial.heads.entries later → Heads by_address l.heads.entries (filter_map (used_of l.router) (drop l.at l.interfaces) ++ later);
}

abbrev pub decreases-interfaces : goal.decreases-interfaces
decreases-interfaces l = l.at
