-- What is known of the sender of each session of a network before any message.
use Rattle.std.specs.Prelude.{◌≡◌, ℕ, nat_lt, true, List, length, Option, IfSome, Some, is_some, option_and_then, slice_get}
use Rattle.nc_types.specs.Config.{ConfigView}
use Rattle.nc_tables.specs.declared.base.BaseRow.{BaseRow}
use Rattle.nc_tables.specs.declared.bgp.SessionRow.{SessionRow}
use Rattle.nc_tables.specs.Base.{is_own}
use Rattle.nc_tables.specs.Reach.{hits}
use Rattle.nc_tables.specs.Rounds.{Link, link_at}
use Rattle.nc_tables.specs.Sessions.{router_id}
use Rattle.nc_sessions.specs.Statements.{statements_of}
use Rattle.nc_sessions.specs.Views.{link_view}
use Rattle.nc_message.specs.declared.adjacencies.Adjacency.{Adjacency}
use Rattle.nc_message.specs.declared.adjacencies.Sender.{Sender}

-- of the sender of a session: its router id, whether the address from which it starts is one of the receiver's own, and whether the
-- base table of the receiver, which is this router, leads to it
pub record IsSender (tables : List (List BaseRow)) (router : ℕ) (k : Link) (s : Sender) : Type 0 where
  pub id : s.id.0 ≡ router_id k.sender.config
  pub own : s.is_own ≡ is_own k.receiver.config.interfaces k.source
  pub reached : s.is_reached ≡ nat_lt 0 (length (hits tables router k.source))

-- where something is known of the sender, it is so
abbrev pub IsAdjacency : List (List BaseRow) → ℕ → Adjacency → Type 0
IsAdjacency tables router h = IfSome h.sender (IsSender tables router (link_view h.link))

-- what is known of the sender to the neighbor statement at a place of a router, if it has a session, is so
abbrev pub IsSenderAt : List ConfigView → List (List BaseRow) → List (List SessionRow) → ℕ → ℕ → Option Sender → Type 0
IsSenderAt routers tables sessions router place o = (k : Link) → link_at routers sessions router place ≡ Some k → IfSome o (IsSender tables router k)

-- of each neighbor statement of a router
abbrev pub AreSenders : List ConfigView → List (List BaseRow) → List (List SessionRow) → ℕ → List (Option Sender) → Type 0
AreSenders routers tables sessions router row = (place : ℕ) (o : Option Sender) → slice_get row place ≡ Some o → IsSenderAt routers tables sessions router place o

-- one for each, and something is known exactly where the statement has a session
pub record AreOfSessions (routers : List ConfigView) (sessions : List (List SessionRow)) (router : ℕ) (row : List (Option Sender)) : Type 0 where
  pub count : length row ≡ length (statements_of routers router)
  pub known : (place : ℕ) (o : Option Sender) → slice_get row place ≡ Some o → is_some o ≡ is_some (link_at routers sessions router place)

-- what a table has for the neighbor statement at a place of a router
abbrev pub sender_in : List (List (Option Sender)) → ℕ → ℕ → Option Sender
sender_in table router place = option_and_then (λ row. option_and_then (λ o. o) (slice_get row place)) (slice_get table router)

-- it has something of the sender of each session
abbrev pub HasEachSender : List ConfigView → List (List SessionRow) → List (List (Option Sender)) → Type 0
HasEachSender routers sessions table = (router place : ℕ) (k : Link) → link_at routers sessions router place ≡ Some k → is_some (sender_in table router place) ≡ true

-- what a table tells of senders is so
abbrev pub AreAdjacencies : List ConfigView → List (List BaseRow) → List (List SessionRow) → List (List (Option Sender)) → Type 0
AreAdjacencies routers tables sessions table = (router place : ℕ) → IsSenderAt routers tables sessions router place (sender_in table router place)
