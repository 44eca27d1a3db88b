-- Both sides of a session, and its conditions in three parts: of the statements, of networks, and of reach.
use Rattle.std.specs.Prelude.{ℕ, Bool, not, ◌&&◌, ◌||◌, ◌==◌, List, Option, option_and_then}
use Rattle.std.specs.Option.{option_map}
use Rattle.nc_types.specs.declared.TheConstants.{HOP_LIMIT}
use Rattle.nc_types.specs.Config.{ConfigView}
use Rattle.nc_tables.specs.declared.base.BaseRow.{BaseRow}
use Rattle.nc_tables.specs.Reach.{reaches}
use Rattle.nc_tables.specs.Sessions.{Sides, is_internal, may_reach, peer_of, side_at}

-- neither statement is shut, they are of two routers, each names the other's system, and the peer starts from the address that this side names
abbrev pub agree : Sides → Bool
agree k =
    not k.own.end.statement.shut && (not (k.peer.router == k.own.router) && ((k.own.end.statement.remote_as == k.peer.end.process.asn)
    && (not k.peer.end.statement.shut && ((k.peer.end.statement.remote_as == k.own.end.process.asn) && (k.peer.source.addr == k.own.end.statement.addr.0)))))

-- it is internal, or each side may reach the other
abbrev pub are_near : Sides → Bool
are_near k = is_internal k || (may_reach k.own.end && may_reach k.peer.end)

-- each side reaches the other's address
abbrev pub reach_each_other : List ConfigView → List (List BaseRow) → Sides → Bool
reach_each_other routers tables k =
    reaches routers tables HOP_LIMIT k.own.router k.own.end.statement.addr.0 && reaches routers tables HOP_LIMIT k.peer.router k.peer.end.statement.addr.0

-- both sides of the session of a neighbor statement, where they are found
abbrev pub sides_at : List ConfigView → List (List BaseRow) → ℕ → ℕ → Option Sides
sides_at routers tables router place =
    option_and_then (λ own. option_map (λ peer. record { own = own; peer = peer }) (peer_of routers tables own)) (side_at routers tables router place)
