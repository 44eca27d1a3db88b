-- The base table of a router: its connected routes, and the static routes that can be used.
use Rattle.std.specs.Prelude.{ℕ, ◌+◌, ◌/◌, Bool, false, not, ◌&&◌, ◌==◌, nat_lt, List, [], ◌∷◌, ◌++◌, filter, map, Option, Some, None, option_and_then, position, slice_get, All, if◌then◌else◌}
use Rattle.std.specs.List.{list_any}
use Rattle.std.specs.Option.{option_map, option_map_or}
use Rattle.std.specs.Ordering.{nat_cmp, ordering_then}
use Rattle.std.specs.Str.{bytes_eq}
use Rattle.std.specs.declared.cmp.Ordering.{Ordering}
use Rattle.std.specs.List.Sorted.{IsSorted}
use Rattle.nc_types.specs.declared.TheConstants.{UNUSED_DISTANCE}
pub use Rattle.nc_types.specs.Cidr.{same_prefix}
use Rattle.nc_types.specs.Cidr.{Cidr, IsCidr}
use Rattle.nc_types.specs.Masks.{size_of}
use Rattle.nc_types.specs.Config.{ConfigView}
use Rattle.nc_types.specs.Network.{up_of, has_address}
use Rattle.nc_types.specs.declared.config.Interface.{Interface}
use Rattle.nc_types.specs.declared.config.StaticRoute.{StaticRoute}
use Rattle.nc_types.specs.declared.config.Via.{Via}
use Rattle.nc_types.specs.declared.config.Via.TheVariants.{Null, Hop, Through}
use Rattle.nc_tables.specs.declared.base.BaseRow.{BaseRow}
use Rattle.nc_tables.specs.declared.base.BaseFrom.{BaseFrom}
use Rattle.nc_tables.specs.declared.base.BaseFrom.TheVariants.{Connected, Static, Null as Discard}
use Rattle.nc_tables.specs.Order.{in_order}

-- whether a prefix covers an address: the first len bits agree
abbrev pub covers : Cidr → ℕ → Bool
covers p addr = addr / size_of p.len == p.base / size_of p.len

-- ---- connected routes

-- the connected routes of interfaces, the first of which has this place: one for each that is up
abbrev pub connected_from : ℕ → List Interface → List BaseRow
connected_from place [] = []
connected_from place (i ∷ is) =
    option_map_or (λ a. record { prefix = a.prefix; distance = 0; from = Connected (record { 0 = place }) } ∷ connected_from (place + 1) is) (up_of i)
    (connected_from (place + 1) is)

-- ---- static routes

-- an interface that is up and whose prefix covers an address
abbrev pub is_toward : ℕ → Interface → Bool
is_toward addr i = option_map_or (λ a. covers a.prefix addr) (up_of i) false

-- the interface through which a next hop is reached: any, or the one that is named
abbrev pub interface_toward : List Interface → Via → Option ℕ
interface_toward is Null = None
interface_toward is (Hop hop) = position (is_toward hop.0) is
interface_toward is (Through reference hop) = position (λ i. bytes_eq reference.name i.name && is_toward hop.0 i) is

-- an address of the router's own
abbrev pub is_own : List Interface → ℕ → Bool
is_own is addr = list_any (has_address addr) is

abbrev pub hop_is_own : List Interface → Via → Bool
hop_is_own is Null = false
hop_is_own is (Hop hop) = is_own is hop.0
hop_is_own is (Through reference hop) = is_own is hop.0

-- where a static route at a place leads, if it can be used: to nothing, or to a next hop which isn't the router's own and which an
-- interface reaches
abbrev pub static_from : List Interface → ℕ → Via → Option BaseFrom
static_from is place Null = Some (Discard place)
static_from is place via =
    if hop_is_own is via then None else option_map (λ iface. Static place (record { 0 = iface })) (interface_toward is via)

-- a static route of the greatest distance is never used
abbrev pub static_row : List Interface → ℕ → StaticRoute → Option BaseRow
static_row is place s =
    if nat_lt s.distance UNUSED_DISTANCE then option_map (λ from. record { prefix = s.prefix; distance = s.distance; from = from }) (static_from is place s.via) else None

-- the row of the static route at a place of a router, if there is one and it can be used
abbrev pub static_at : List ConfigView → ℕ → ℕ → Option BaseRow
static_at routers router place =
    option_and_then (λ c. option_and_then (λ s. static_row c.interfaces place s) (slice_get c.statics place)) (slice_get routers router)

-- the rows of the static routes that can be used, the first of which has this place
abbrev pub statics_from : List Interface → ℕ → List StaticRoute → List BaseRow
statics_from is place [] = []
statics_from is place (s ∷ ss) =
    option_map_or (λ row. row ∷ statics_from is (place + 1) ss) (static_row is place s) (statics_from is (place + 1) ss)

-- ---- tables

-- all that may become a row
abbrev pub candidates : ConfigView → List BaseRow
candidates c = connected_from 0 c.interfaces ++ statics_from c.interfaces 0 c.statics

-- a row of which there is no other with the same prefix and a lower distance
abbrev pub is_nearest : List BaseRow → BaseRow → Bool
is_nearest rows row = not (list_any (λ other. same_prefix other.prefix row.prefix && nat_lt other.distance row.distance) rows)

-- prefixes go by address, then by length
abbrev pub prefix_cmp : Cidr → Cidr → Ordering
prefix_cmp p q = ordering_then (nat_cmp p.base q.base) (nat_cmp p.len q.len)

-- connected rows come before static ones, and each by its place
abbrev pub rank_of : BaseFrom → ℕ × ℕ
rank_of (Connected iface) = (0, iface.0)
rank_of (Static place iface) = (1, place)
rank_of (Discard place) = (1, place)

abbrev pub from_cmp : BaseFrom → BaseFrom → Ordering
from_cmp a b = ordering_then (nat_cmp (rank_of a).0 (rank_of b).0) (nat_cmp (rank_of a).1 (rank_of b).1)

abbrev pub row_cmp : BaseRow → BaseRow → Ordering
row_cmp a b = ordering_then (prefix_cmp a.prefix b.prefix) (from_cmp a.from b.from)

-- the rows of one router in order, each of a prefix that has no host bits
pub record AreRows (rows : List BaseRow) : Type 0 where
  pub ordered : IsSorted row_cmp rows
  pub valid : All (λ row. IsCidr row.prefix.base row.prefix.len) rows

-- the base table of a router: of each prefix the rows of the least distance, in order
unfoldable pub base_table : ConfigView → List BaseRow
base_table c = in_order row_cmp (filter (is_nearest (candidates c)) (candidates c))

-- the base tables of all routers
abbrev pub base_tables : List ConfigView → List (List BaseRow)
base_tables routers = map base_table routers
