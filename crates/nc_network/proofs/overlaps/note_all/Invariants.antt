use Rattle.std.proofs.Common.{◌≡◌, ◌≤◌, drop, length}
use Rattle.std.specs.List.{filter_map}
use Rattle.nc_types.specs.Joining.{earliest, with_later}
use Rattle.nc_network.specs.Steps.{merge, used_of, Heads, by_prefix, same_pairs, AreCidrs}
use Rattle.nc_network.proofs.overlaps.note_all.Given as goal

abbrev pub invariant-interfaces : goal.invariant-interfaces
invariant-interfaces l = record {
  within : l.at ≤ length l.interfaces;
  heads : Heads by_prefix l.heads.entries (filter_map (used_of l.router) (drop l.at l.interfaces));
  cidrs : AreCidrs (filter_map (used_of l.router) (drop l.at l.interfaces));
  found : l.found ≡ merge l.fn.found (earliest (with_later (same_pairs l.router) (filter_map (used_of l.router) (drop l.at l.interfaces))));
}

abbrev pub decreases-interfaces : goal.decreases-interfaces
decreases-interfaces l = l.at
