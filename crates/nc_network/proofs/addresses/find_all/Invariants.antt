use Rattle.std.proofs.Common.{◌≡◌, List, drop}
use Rattle.std.specs.List.{flat_map}
use Rattle.std.specs.Option.{option_to_list}
use Rattle.nc_types.specs.Joining.{Used}
use Rattle.nc_network.specs.Steps.{merge, first_of_all, used_of, Heads, by_address, address_pairs}
use Rattle.nc_network.proofs.addresses.find_all.Given as goal

abbrev pub invariant-interfaces : goal.invariant-interfaces
invariant-interfaces l = (later : List Used) → Heads by_address l.heads.entries later
    → merge l.found (first_of_all (λ i. flat_map (address_pairs later) (option_to_list (used_of l.router i))) (drop l.item-index l.interfaces))
    ≡ merge l.fn.found (first_of_all (λ i. flat_map (address_pairs later) (option_to_list (used_of l.router i))) l.interfaces)
