-- Where the base tables of a network lead a packet.
use Rattle.std.specs.Prelude.{ℕ, zero, suc, Bool, true, false, not, ◌&&◌, ◌||◌, ◌==◌, List, [], map, filter, Option, Some, None, option_and_then, position, slice_get, slice_index_or, if◌then◌else◌}
use Rattle.std.specs.List.{filter_map, list_any}
use Rattle.std.specs.Option.{option_map, option_map_or}
use Rattle.nc_types.specs.Config.{ConfigView}
use Rattle.nc_types.specs.Network.{PlaceIn, has_address, hop_of, up_at, owner_of}
use Rattle.nc_tables.specs.declared.base.BaseRow.{BaseRow}
use Rattle.nc_tables.specs.declared.base.BaseFrom.{BaseFrom}
use Rattle.nc_tables.specs.declared.base.BaseFrom.TheVariants.{Connected, Static, Null as Discard}
use Rattle.nc_tables.specs.Base.{same_prefix, is_own}
use Rattle.nc_tables.specs.Longest.{longest}

-- a way out of a router: its interface, and the address that is sent to there
pub record Exit : Type 0 where
  pub iface : ℕ
  pub addr : ℕ

-- a row leads on, unless it discards
abbrev pub leads : BaseFrom → Bool
leads (Connected iface) = true
leads (Static place iface) = true
leads (Discard place) = false

-- ---- the rows that serve a packet

module _ (tables : List (List BaseRow)) where
  -- the rows of a router
  abbrev pub rows_of : ℕ → List BaseRow
  rows_of router = slice_index_or tables router []

  -- the row at a place leads on
  abbrev pub is_hit : ℕ → ℕ → Bool
  is_hit router place = option_map_or (λ row. leads row.from) (slice_get (rows_of router) place) false

  -- the rows of the longest prefix that covers an address, by their places, without those that discard
  abbrev pub hits : ℕ → ℕ → List ℕ
  hits router addr = filter (is_hit router) (longest (map (λ row. row.prefix) (rows_of router)) addr)

-- ---- where they lead

module _ (routers : List ConfigView) where
  -- the next hop of the static route at a place of a router
  abbrev pub next_hop : ℕ → ℕ → Option ℕ
  next_hop router place =
      option_map (λ hop. hop.0) (option_and_then (λ c. option_and_then (λ s. hop_of s.via) (slice_get c.statics place)) (slice_get routers router))

  -- the way out by a row: a connected interface and the address itself, or the route's interface and its next hop
  abbrev pub exit_by : ℕ → ℕ → BaseFrom → Option Exit
  exit_by router addr (Connected iface) = Some (record { iface = iface.0; addr = addr })
  exit_by router addr (Static place iface) = option_map (λ hop. record { iface = iface.0; addr = hop }) (next_hop router place)
  exit_by router addr (Discard place) = None

  -- two interfaces that are up and whose prefixes are equal
  abbrev pub is_linked : ℕ → ℕ → PlaceIn → Bool
  is_linked router iface other =
      option_map_or (λ a. option_map_or (λ b. same_prefix a.prefix b.prefix) (up_at routers other.router other.place) false) (up_at routers router iface) false

  -- where a way out leads: to the owner of its address, on another router, on the same link
  abbrev pub exit_leads : ℕ → Exit → Option PlaceIn
  exit_leads router exit =
      option_and_then (λ other. if not (other.router == router) && is_linked router exit.iface other then Some other else None) (owner_of routers exit.addr)

  -- the interface of a router that is up and has an address
  abbrev pub own_place : ℕ → ℕ → Option ℕ
  own_place router addr = option_and_then (λ c. position (has_address addr) c.interfaces) (slice_get routers router)

  -- an address of one of a router's interfaces that are up
  abbrev pub owns : ℕ → ℕ → Bool
  owns router addr = option_map_or (λ c. is_own c.interfaces addr) (slice_get routers router) false

module _ (routers : List ConfigView) (tables : List (List BaseRow)) where
  -- the way out of a router for an address by the row at a place
  abbrev pub exit_of : ℕ → ℕ → ℕ → Option Exit
  exit_of router addr place = option_and_then (λ row. exit_by routers router addr row.from) (slice_get (rows_of tables router) place)

  -- where the row at a place leads for an address
  abbrev pub leads_to : ℕ → ℕ → ℕ → Option PlaceIn
  leads_to router addr place = option_and_then (exit_leads routers router) (exit_of router addr place)

  -- where the hits of a router lead
  abbrev pub next_places : ℕ → ℕ → List PlaceIn
  next_places router addr = filter_map (leads_to router addr) (hits tables router addr)

  -- whether a packet for an address comes from a router to its owner by some hits, over at most so many hops
  unfoldable pub reaches : ℕ → ℕ → ℕ → Bool
  reaches zero router addr = owns routers router addr
  reaches (suc hops) router addr = owns routers router addr || list_any (λ next. reaches hops next.router addr) (next_places router addr)
