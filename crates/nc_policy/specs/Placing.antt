-- The places of entries by their prefix and a length, and of prefixes.
use Rattle.std.specs.Prelude.{ℕ, Bool, ◌&&◌, nat_eq, List, map, Option}
use Rattle.std.specs.Map.{lookup}
use Rattle.std.specs.Ordering.{nat_cmp, ordering_then}
use Rattle.std.specs.declared.cmp.Ordering.{Ordering}
use Rattle.nc_policy.specs.declared.spot_table.Spot.{Spot}
use Rattle.nc_policy.specs.declared.spot_table.Placed.{Placed}
use Rattle.nc_types.specs.Cidr.{Cidr, same_prefix}
use Rattle.nc_policy.specs.declared.prefix_places.PlacedPrefix.{PlacedPrefix}

-- two keys are the same
abbrev pub same_spot : Spot → Spot → Bool
same_spot s t = nat_eq s.addr.0 t.addr.0 && (nat_eq s.prefix_len t.prefix_len && nat_eq s.len t.len)

-- which of two keys is first: by the address, then by the length of the entry's prefix, then by that of the route's
abbrev pub spot_cmp : Spot → Spot → Ordering
spot_cmp s t = ordering_then (nat_cmp s.addr.0 t.addr.0) (ordering_then (nat_cmp s.prefix_len t.prefix_len) (nat_cmp s.len t.len))

-- the place of the first item that has a key
abbrev pub place_at : Spot → List Placed → Option ℕ
place_at s items = lookup (same_spot s) (map (λ x. (x.spot, x.place)) items)

-- the same of a prefix
abbrev pub prefix_place_at : Cidr → List PlacedPrefix → Option ℕ
prefix_place_at p items = lookup (same_prefix p) (map (λ x. (x.prefix, x.place)) items)
