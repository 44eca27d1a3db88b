-- Which BGP sessions are established, and the router id.
use Rattle.std.specs.Prelude.{ℕ, ◌<◌, AllPairs, Bool, not, ◌&&◌, ◌||◌, ◌==◌, nat_lt, List, [], ◌∷◌, length, map, filter, Option, Some, None, option_and_then, position, slice_get, if◌then◌else◌, codes}
use Rattle.std.specs.List.{filter_map, find, list_any, starts_with, range_with_len, fold}
use Rattle.std.specs.Option.{option_map, option_map_or}
use Rattle.std.specs.Str.{bytes_eq}
use Rattle.nc_types.specs.declared.TheConstants.{HOP_LIMIT}
use Rattle.nc_types.specs.Config.{ConfigView, ProcessView}
use Rattle.nc_types.specs.Network.{up_of, up_at, owner_of}
use Rattle.nc_types.specs.declared.config.Interface.{Interface}
use Rattle.nc_types.specs.declared.config.Neighbor.{Neighbor}
use Rattle.nc_tables.specs.declared.base.BaseRow.{BaseRow}
use Rattle.nc_tables.specs.declared.bgp.SessionRow.{SessionRow}
use Rattle.nc_tables.specs.Base.{is_toward}
use Rattle.nc_tables.specs.Reach.{hits, exit_of, reaches}

-- the first of a list
abbrev pub first_of : {A : Type 0} → List A → Option A
first_of [] = None
first_of (x ∷ xs) = Some x

-- ---- the router id

-- the greatest of some numbers, 0 where there is none
abbrev pub greatest : List ℕ → ℕ
greatest ns = fold (λ most n. if nat_lt most n then n else most) 0 ns

-- the addresses of interfaces that are up, of all or of the loopbacks alone
abbrev pub up_addresses : List Interface → List ℕ
up_addresses is = filter_map (λ i. option_map (λ a. a.addr.0) (up_of i)) is

abbrev pub is_loopback : Interface → Bool
is_loopback i = starts_with (λ a b. a == b) i.name (codes "Loopback")

-- the one that is written, else the highest address of a loopback, else of any interface
abbrev pub router_id : ConfigView → ℕ
router_id c =
    option_map_or (λ a. a.0) (option_and_then (λ p. p.router_id) c.process)
    (let loopbacks = up_addresses (filter is_loopback c.interfaces) in
    if nat_lt 0 (length loopbacks) then greatest loopbacks else greatest (up_addresses c.interfaces))

-- ---- neighbor statements

-- a neighbor statement, with the process and the router that have it
pub record End : Type 0 where
  pub config : ConfigView
  pub process : ProcessView
  pub statement : Neighbor

-- where a session starts: an interface that is up, and its address
pub record SourceOf : Type 0 where
  pub iface : ℕ
  pub addr : ℕ

-- one side of a session: a neighbor statement by its router and its place, and where it starts
pub record Side : Type 0 where
  pub router : ℕ
  pub place : ℕ
  pub end : End
  pub source : SourceOf

module _ (routers : List ConfigView) where
  -- the process of a router
  abbrev pub process_of : ℕ → Option ProcessView
  process_of router = option_and_then (λ c. c.process) (slice_get routers router)

  -- the neighbor statement at a place of a router
  abbrev pub end_at : ℕ → ℕ → Option End
  end_at router place =
      option_and_then (λ c. option_and_then (λ p. option_map (λ n. record { config = c; process = p; statement = n }) (slice_get p.neighbors place)) c.process)
      (slice_get routers router)

  -- the place of a router's statement for an address
  abbrev pub place_for : ℕ → ℕ → Option ℕ
  place_for router addr = option_and_then (λ p. position (λ n. n.addr.0 == addr) p.neighbors) (process_of router)

-- ---- sessions

-- both ends of a session, the first of which is the one that sees it
pub record Sides : Type 0 where
  pub own : Side
  pub peer : Side

-- one system, or two
abbrev pub is_internal : Sides → Bool
is_internal k = k.own.end.process.asn == k.peer.end.process.asn

-- between two systems a peer has to be on a network of this side, but for multihop
abbrev pub may_reach : End → Bool
may_reach e = e.statement.multihop || list_any (is_toward e.statement.addr.0) e.config.interfaces

-- what it takes that a session is established, where both sides are found, in the order in which it is told
pub record Conditions : Type 0 where
  -- the statement isn't shut
  pub enabled : Bool
  -- its address is of another router, which has the system that the statement names
  pub other : Bool
  pub asn : Bool
  -- the peer's statement isn't shut, names the system of this router, and starts from the statement's address
  pub peer_enabled : Bool
  pub peer_asn : Bool
  pub peer_source : Bool
  -- it is internal, or each side may reach the other
  pub near : Bool
  -- each side reaches the other's address
  pub reach : Bool
  pub peer_reach : Bool

abbrev pub are_met : Conditions → Bool
are_met c = c.enabled && (c.other && (c.asn && (c.peer_enabled && (c.peer_asn && (c.peer_source && (c.near && (c.reach && c.peer_reach)))))))

-- the session of two sides
abbrev pub session_of : Sides → SessionRow
session_of k =
    record {
      router = record { 0 = k.own.router };
      neighbor = k.own.place;
      peer = record { 0 = k.peer.router };
      peer_neighbor = k.peer.place;
      source = record { 0 = k.own.source.iface };
      peer_source = record { 0 = k.peer.source.iface };
      internal = is_internal k;
    }

module _ (routers : List ConfigView) (tables : List (List BaseRow)) where
  -- the interface from which a neighbor statement starts its session: the one that it names, or that of the first hit toward it
  abbrev pub source_iface : ℕ → End → Option ℕ
  source_iface router e =
      option_map_or (λ source. position (λ i. bytes_eq source.name i.name) e.config.interfaces) e.statement.source
      (option_and_then (λ hit. option_map (λ exit. exit.iface) (exit_of routers tables router e.statement.addr.0 hit)) (first_of (hits tables router e.statement.addr.0)))

  -- that interface and its address, if it is up
  abbrev pub source_of : ℕ → End → Option SourceOf
  source_of router e =
      option_and_then (λ iface. option_map (λ a. record { iface = iface; addr = a.addr.0 }) (up_at routers router iface)) (source_iface router e)

  -- the side of the statement at a place of a router, if it has a source
  abbrev pub side_at : ℕ → ℕ → Option Side
  side_at router place =
      option_and_then (λ e. option_map (λ source. record { router = router; place = place; end = e; source = source }) (source_of router e)) (end_at routers router place)

  -- the other side: the router that owns the statement's address, by its statement for the address from which this side starts
  abbrev pub peer_of : Side → Option Side
  peer_of own =
      option_and_then (λ owner. option_and_then (side_at owner.router) (place_for routers owner.router own.source.addr))
      (owner_of routers own.end.statement.addr.0)

  abbrev pub conditions_of : Sides → Conditions
  conditions_of k =
      record {
        enabled = not k.own.end.statement.shut;
        other = not (k.peer.router == k.own.router);
        asn = k.own.end.statement.remote_as == k.peer.end.process.asn;
        peer_enabled = not k.peer.end.statement.shut;
        peer_asn = k.peer.end.statement.remote_as == k.own.end.process.asn;
        peer_source = k.peer.source.addr == k.own.end.statement.addr.0;
        near = is_internal k || (may_reach k.own.end && may_reach k.peer.end);
        reach = reaches routers tables HOP_LIMIT k.own.router k.own.end.statement.addr.0;
        peer_reach = reaches routers tables HOP_LIMIT k.peer.router k.peer.end.statement.addr.0;
      }

  -- the session of the neighbor statement at a place of a router, if it is established
  abbrev pub session_at : ℕ → ℕ → Option SessionRow
  session_at router place =
      option_and_then (λ own. option_and_then (λ peer. let k : Sides = record { own = own; peer = peer } in if are_met (conditions_of k) then Some (session_of k) else None)
      (peer_of own)) (side_at router place)

  -- the sessions of a router, in order of its neighbor statements
  abbrev pub sessions_of : ℕ → List SessionRow
  sessions_of router =
      filter_map (session_at router) (range_with_len 0 (option_map_or (λ p. length p.neighbors) (process_of routers router) 0))

  -- the sessions of all routers
  abbrev pub sessions : List (List SessionRow)
  sessions = map sessions_of (range_with_len 0 (length routers))

-- ---- sessions in tables

-- the sessions of a router, strictly in order of its neighbor statements
abbrev pub AreSessions : List SessionRow → Type 0
AreSessions rows = AllPairs (λ a b. a.neighbor < b.neighbor) rows

-- the session of a neighbor statement, among those of a router
abbrev pub session_in : List SessionRow → ℕ → Option SessionRow
session_in rows place = find (λ s. s.neighbor == place) rows
