-- Which packets the access lists of interfaces let pass (Cisco IOS command reference, `access-list` and `ip access-group`).
use Rattle.std.specs.Prelude.{ℕ, Bool, true, false, not, ◌&&◌, ◌==◌, bit_or, List, position, Option, is_some, option_and_then, slice_get, if◌then◌else◌}
use Rattle.std.specs.List.{list_any}
use Rattle.std.specs.Option.{option_map_or}
use Rattle.std.specs.Str.{bytes_eq}
use Rattle.nc_types.specs.Config.{ConfigView}
use Rattle.nc_types.specs.Network.{up_at}
use Rattle.nc_types.specs.declared.filters.AddrMatch.{AddrMatch}
use Rattle.nc_types.specs.declared.filters.FilterEntry.{FilterEntry}
use Rattle.nc_types.specs.declared.filters.Group.{Group}
use Rattle.nc_tables.specs.declared.filters.Passing.{Passing}
use Rattle.nc_tables.specs.declared.filters.Passing.TheVariants.{Free, Deny, By}

-- an address agrees with that of an entry in every bit that is 0 in the wildcard: with the wildcard's bits set in both they are one
abbrev pub matches : AddrMatch → ℕ → Bool
matches m addr = bit_or addr m.wild.0 == bit_or m.addr.0 m.wild.0

-- an entry is of a list
abbrev pub is_of : List ℕ → FilterEntry → Bool
is_of list e = bytes_eq list e.list

-- a filter is that of an interface's direction
abbrev pub is_at : List ℕ → Bool → Group → Bool
is_at iface inward g = bytes_eq iface g.iface && (if inward then g.inward else not g.inward)

-- the filter of an interface in a direction, by its place
abbrev pub group_of : ConfigView → ℕ → Bool → Option ℕ
group_of c iface inward = option_and_then (λ i. position (is_at i.name inward) c.groups) (slice_get c.interfaces iface)

-- a packet is denied
abbrev pub is_denied : Passing → Bool
is_denied Deny = true
is_denied passing = false

-- what the entry at a place says that decides
abbrev pub said_by : ConfigView → ℕ → ℕ → Passing
said_by c group entry = option_map_or (λ e. if e.permit then By group entry else Deny) (slice_get c.filters entry) Deny

module _ (from to : ℕ) where
  -- an entry decides on a packet from one address to another where both match; one of another protocol than `ip` never does
  abbrev pub decides : FilterEntry → Bool
  decides e = e.ip && (matches e.from from && matches e.to to)

  -- the entry of a list that decides: the first one that does, by its place
  abbrev pub deciding : ConfigView → List ℕ → Option ℕ
  deciding c list = position (λ e. is_of list e && decides e) c.filters

  -- what a filter says: what no entry of its list decides on is denied, and a list without entries lets all pass
  abbrev pub passing_by : ConfigView → ℕ → Group → Passing
  passing_by c group g = if list_any (is_of g.list) c.filters then option_map_or (said_by c group) (deciding c g.list) Deny else Free

  -- what an interface of a router says of the packet in a direction
  unfoldable pub passing : ConfigView → ℕ → Bool → Passing
  passing c iface inward =
      option_map_or (λ group. option_map_or (passing_by c group) (slice_get c.groups group) Free) (group_of c iface inward) Free

  -- the same by the router's number; of a router that doesn't exist nothing is said
  abbrev pub passing_at : List ConfigView → ℕ → ℕ → Bool → Passing
  passing_at routers router iface inward = option_map_or (λ c. passing c iface inward) (slice_get routers router) Free

  -- whether an interface lets the packet pass in a direction: it is up, and doesn't deny it
  abbrev pub passes : List ConfigView → ℕ → ℕ → Bool → Bool
  passes routers router iface inward = is_some (up_at routers router iface) && not (is_denied (passing_at routers router iface inward))
