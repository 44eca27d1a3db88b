use Rattle.std.proofs.Common.{◌≡◌, ℕ, ◌||◌, List, map, drop}
use Rattle.std.specs.List.{list_any}
use Rattle.std.specs.Str.{bytes_eq}
use Rattle.nc_types.specs.Config.{list_view}
use Rattle.nc_network.proofs.defined.prefix_list_names.Given as goal

abbrev pub invariant-named : goal.invariant-named
invariant-named l = (q : List ℕ) → (list_any (bytes_eq q) l.names.keys || list_any (bytes_eq q) (drop l.item-index (map (λ k. k.name) (map list_view l.lists)))) ≡ list_any (bytes_eq q) (map (λ k. k.name) (map list_view l.lists))
