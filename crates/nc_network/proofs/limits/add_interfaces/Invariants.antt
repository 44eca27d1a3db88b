use Rattle.std.proofs.Common.{drop}
use Rattle.std.specs.List.{filter_map}
use Rattle.std.specs.Option.{option_map}
use Rattle.nc_network.proofs.Counted.{IsLeft}
use Rattle.nc_network.proofs.limits.add_interfaces.Given as goal

abbrev pub invariant-items : goal.invariant-items
invariant-items l = IsLeft l.initial.seen.keys l.seen.keys (filter_map (λ i. option_map (λ a. a.prefix) i.address) (drop l.item-index l.interfaces)) (filter_map (λ i. option_map (λ a. a.prefix) i.address) l.interfaces)
