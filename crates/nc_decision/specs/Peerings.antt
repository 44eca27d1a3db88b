-- The sessions over which routers learn, each with the place of its neighbor statement.
use Rattle.std.specs.Prelude.{◌≡◌, ℕ, Bool, false, ◌==◌, List, [], length, Option, IfNone, IfSome, None, Some, slice_get}
use Rattle.std.specs.Option.{option_map_or}
use Rattle.nc_types.specs.Cidr.{Cidr}
use Rattle.nc_types.specs.Config.{ConfigView, ProcessView}
use Rattle.nc_types.specs.declared.config.AggregateStatement.{AggregateStatement}
use Rattle.nc_tables.specs.declared.base.BaseRow.{BaseRow}
use Rattle.nc_tables.specs.declared.bgp.SessionRow.{SessionRow}
use Rattle.nc_tables.specs.Rounds.{link_at}
use Rattle.nc_tables.specs.Sessions.{process_of}
use Rattle.nc_sessions.specs.Statements.{statements_of}
use Rattle.nc_sessions.specs.Views.{link_view}
use Rattle.nc_message.specs.Inputs.{IsBetween}
use Rattle.nc_message.specs.Adjacencies.{IsAdjacency}
use Rattle.nc_decision.specs.Bare.{IsBare}
use Rattle.nc_decision.specs.PrefixBits.{has_alike, has_bit}
use Rattle.nc_decision.specs.SessionMaps.{highest_from_outside, AreMapsOf}
use Rattle.nc_decision.specs.declared.peerings.Peering.{Peering}
use Rattle.nc_decision.specs.declared.prefix_bits.PrefixBits.{PrefixBits}

-- the ends are those of the session of the neighbor statement at this place of a router, what is known of the sender is so, the session's maps
-- stand where it says, no preference is accepted above this, and where it is told that nothing stands on its way, it is so
pub record IsPeering (routers : List ConfigView) (tables : List (List BaseRow)) (sessions : List (List SessionRow)) (router : ℕ) (p : Peering) : Type 0 where
  pub link : Some (link_view p.adjacency.link) ≡ link_at routers sessions router p.place
  pub between : IsBetween routers router (link_view p.adjacency.link)
  pub known : IsAdjacency tables router p.adjacency
  pub maps : AreMapsOf (link_view p.adjacency.link) p.maps
  pub peer : p.peer ≡ p.adjacency.link.session.peer
  pub highest : p.highest ≡ highest_from_outside (link_view p.adjacency.link)
  pub bare : IfSome p.bare (IsBare tables router (link_view p.adjacency.link))

-- what stands for the session of the neighbor statement at a place of a router, if it has one, is so
pub record IsPeeringAt (routers : List ConfigView) (tables : List (List BaseRow)) (sessions : List (List SessionRow)) (router place : ℕ) (o : Option Peering) : Type 0 where
  pub peering : IfSome o (IsPeering routers tables sessions router)
  pub own : IfSome o (λ p. p.place ≡ place)
  pub none : IfNone o (None ≡ link_at routers sessions router place)

-- of each neighbor statement of a router
pub record ArePeeringsAt (routers : List ConfigView) (tables : List (List BaseRow)) (sessions : List (List SessionRow)) (router : ℕ) (peerings : List (Option Peering)) : Type 0 where
  pub count : length peerings ≡ length (statements_of routers router)
  pub each : (place : ℕ) (o : Option Peering) → slice_get peerings place ≡ Some o → IsPeeringAt routers tables sessions router place o

-- the sessions of a router's neighbor statements, its process, whether that uses one route alone, its aggregates, and bits of its networks
pub record RouterPeerings : Type 0 where
  pub sessions : List (Option Peering)
  pub process : Option ProcessView
  pub is_single : Bool
  pub aggregates : List AggregateStatement
  pub networks : PrefixBits

-- what is told of the process is so
pub record IsOfProcess (p : RouterPeerings) : Type 0 where
  pub single : p.is_single ≡ option_map_or (λ q. q.max_paths == 1) p.process false
  pub aggregates : p.aggregates ≡ option_map_or (λ q. q.aggregates) p.process []
  pub networks : (prefix : Cidr) → has_bit p.networks prefix ≡ has_alike prefix (option_map_or (λ q. q.networks) p.process [])

-- they are those of this router
pub record ArePeerings (routers : List ConfigView) (tables : List (List BaseRow)) (sessions : List (List SessionRow)) (router : ℕ) (peerings : RouterPeerings) : Type 0 where
  pub each : ArePeeringsAt routers tables sessions router peerings.sessions
  pub process : peerings.process ≡ process_of routers router
  pub alone : IsOfProcess peerings

-- of each router of a network
pub record AreNetworkPeerings (routers : List ConfigView) (tables : List (List BaseRow)) (sessions : List (List SessionRow)) (all : List RouterPeerings) : Type 0 where
  pub count : length all ≡ length routers
  pub each : (router : ℕ) (peerings : RouterPeerings) → slice_get all router ≡ Some peerings → ArePeerings routers tables sessions router peerings
