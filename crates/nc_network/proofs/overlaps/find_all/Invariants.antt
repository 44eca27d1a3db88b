use Rattle.std.proofs.Common.{◌≡◌, List, drop}
use Rattle.std.specs.List.{flat_map}
use Rattle.std.specs.Option.{option_to_list}
use Rattle.nc_types.specs.Joining.{Used}
use Rattle.nc_network.specs.Steps.{merge, first_of_all, used_of, Heads, by_prefix, shorter_pairs, AreCidrs, AreLong}
use Rattle.nc_network.proofs.overlaps.find_all.Given as goal

abbrev pub invariant-interfaces : goal.invariant-interfaces
invariant-interfaces l = (all : List Used) → Heads by_prefix l.heads.entries all → AreCidrs all → AreLong l.least all
    → merge l.found (first_of_all (λ i. flat_map (shorter_pairs l.router all) (option_to_list (used_of l.router i))) (drop l.item-index l.interfaces))
    ≡ merge l.fn.found (first_of_all (λ i. flat_map (shorter_pairs l.router all) (option_to_list (used_of l.router i))) l.interfaces)
