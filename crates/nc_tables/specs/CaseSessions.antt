-- Sessions: the router id, where a session starts, and each condition of it by itself.
use Rattle.std.specs.Prelude.{◌≡◌, ℕ, true, false, List, [], ◌∷◌, map, Option, Some, None, codes, refl}
use Rattle.nc_types.specs.Config.{ConfigView, ProcessView}
use Rattle.nc_types.specs.declared.config.Neighbor.{Neighbor}
use Rattle.nc_types.specs.declared.config.StaticRoute.{StaticRoute}
use Rattle.nc_tables.specs.Base.{base_table, base_tables}
use Rattle.nc_tables.specs.Longest.{longest}
use Rattle.nc_tables.specs.Reach.{reaches}
use Rattle.nc_tables.specs.Sessions.{End, SourceOf, router_id, source_of, session_in}
use Rattle.nc_tables.specs.Cases.{address, prefix, interface, route_to, neighbor, process, router, refers, sessions_in}

-- ---- the router id

abbrev pub with_loopbacks : Option ProcessView → ConfigView
with_loopbacks own =
    router (interface (codes "Ethernet0") (address 203 0 113 1) (prefix 203 0 113 0 24) ∷ interface (codes "Loopback0") (address 10 0 0 1) (prefix 10 0 0 1 32)
    ∷ interface (codes "Loopback7") (address 10 0 0 7) (prefix 10 0 0 7 32) ∷ interface (codes "Loopback1") (address 10 0 0 2) (prefix 10 0 0 2 32)
    ∷ record (interface (codes "Loopback9") (address 10 0 0 9) (prefix 10 0 0 9 32)) { shut = true } ∷ interface (codes "loopback2") (address 10 0 0 8) (prefix 10 0 0 8 32) ∷ []) [] own [] []

-- the highest address of a loopback that is up, though another interface has a higher one; letters count
pub of_loopbacks : router_id (with_loopbacks (Some (process 65001 1 [] [] []))) ≡ address 10 0 0 7
of_loopbacks = refl

pub written : router_id (with_loopbacks (Some (record (process 65001 1 [] [] []) { router_id = Some (record { 0 = address 1 1 1 1 }) }))) ≡ address 1 1 1 1
written = refl

pub of_any : router_id (router (interface (codes "Ethernet0") (address 10 0 0 1) (prefix 10 0 0 0 30) ∷ interface (codes "Ethernet1") (address 10 0 0 9) (prefix 10 0 0 8 30)
    ∷ record (interface (codes "Ethernet2") (address 10 0 0 13) (prefix 10 0 0 12 30)) { shut = true } ∷ []) [] None [] []) ≡ address 10 0 0 9
of_any = refl

pub of_none : router_id (router [] [] None [] []) ≡ 0
of_none = refl

-- ---- two routers on one link, of two systems

abbrev pub left : List Neighbor → ConfigView
left neighbors =
    router (interface (codes "Ethernet0") (address 10 1 0 1) (prefix 10 1 0 0 24) ∷ interface (codes "Ethernet1") (address 10 0 12 1) (prefix 10 0 12 0 30) ∷ [])
    [] (Some (process 65001 1 neighbors [] [])) [] []

abbrev pub right : List Neighbor → ConfigView
right neighbors =
    router (interface (codes "Ethernet0") (address 10 0 12 2) (prefix 10 0 12 0 30) ∷ interface (codes "Loopback0") (address 192 168 0 2) (prefix 192 168 0 2 32) ∷ [])
    [] (Some (process 65002 1 neighbors [] [])) [] []

abbrev pub to_right : Neighbor
to_right = neighbor (address 10 0 12 2) 65002 None None

abbrev pub to_left : Neighbor
to_left = neighbor (address 10 0 12 1) 65001 None None

-- a statement for an address that nobody has
abbrev pub to_nobody : Neighbor
to_nobody = neighbor (address 10 0 12 3) 65003 None None

-- both see the session, each with the places of the statements and the interfaces of both
pub both_sides : sessions_in (left (to_nobody ∷ to_right ∷ []) ∷ right (to_left ∷ []) ∷ [])
    ≡ (record { router = record { 0 = 0 }; neighbor = 1; peer = record { 0 = 1 }; peer_neighbor = 0; source = record { 0 = 1 }; peer_source = record { 0 = 0 }; internal = false } ∷ [])
    ∷ (record { router = record { 0 = 1 }; neighbor = 0; peer = record { 0 = 0 }; peer_neighbor = 1; source = record { 0 = 0 }; peer_source = record { 0 = 1 }; internal = false } ∷ []) ∷ []
unfolding base_table reaches longest
both_sides = refl

-- a statement that is shut ends the session on both sides
pub shut : sessions_in (left (record to_right { shut = true } ∷ []) ∷ right (to_left ∷ []) ∷ []) ≡ [] ∷ [] ∷ []
unfolding base_table reaches longest
shut = refl

-- so does one that names another system
pub other_system : sessions_in (left (record to_right { remote_as = 65009 } ∷ []) ∷ right (to_left ∷ []) ∷ []) ≡ [] ∷ [] ∷ []
unfolding base_table reaches longest
other_system = refl

-- a statement for an own address makes no session
pub with_itself : sessions_in (left (record to_left { remote_as = 65001 } ∷ []) ∷ right [] ∷ []) ≡ [] ∷ [] ∷ []
unfolding base_table reaches longest
with_itself = refl

-- the peer has to start from the statement's address: here it starts from its loopback
pub other_source : sessions_in (left (to_right ∷ []) ∷ right (record to_left { source = Some (refers (codes "Loopback0")) } ∷ []) ∷ []) ≡ [] ∷ [] ∷ []
unfolding base_table reaches longest
other_source = refl

-- without a statement of the peer there is none, and without a process neither
pub one_sided : sessions_in (left (to_right ∷ []) ∷ right [] ∷ []) ≡ [] ∷ [] ∷ []
unfolding base_table reaches longest
one_sided = refl

-- ---- two routers with a session between their loopbacks

abbrev pub loopback_router : ℕ → ℕ → ℕ → Neighbor → List StaticRoute → ConfigView
loopback_router addr loopback asn statement statics =
    router (interface (codes "Ethernet0") addr (prefix 10 0 12 0 30) ∷ interface (codes "Loopback0") loopback (record { base = loopback; len = 32 }) ∷ []) statics
    (Some (process asn 1 (statement ∷ []) [] [])) [] []

abbrev pub from_loopback : ℕ → ℕ → Neighbor
from_loopback addr asn = neighbor addr asn (Some (refers (codes "Loopback0"))) None

-- the second has a default route, and the first has these routes
abbrev pub far : ℕ → Neighbor → Neighbor → List StaticRoute → List ConfigView
far asn first second statics =
    loopback_router (address 10 0 12 1) (address 192 168 0 1) 65001 first statics
    ∷ loopback_router (address 10 0 12 2) (address 192 168 0 2) asn second (route_to (prefix 0 0 0 0 0) (address 10 0 12 1) ∷ []) ∷ []

abbrev pub default : List StaticRoute
default = route_to (prefix 0 0 0 0 0) (address 10 0 12 2) ∷ []

-- a default route is enough to reach the peer, and between two systems both sides need multihop
pub multihop : map (map (λ s. s.internal))
    (sessions_in (far 65002 (record (from_loopback (address 192 168 0 2) 65002) { multihop = true }) (record (from_loopback (address 192 168 0 1) 65001) { multihop = true }) default))
    ≡ (false ∷ []) ∷ (false ∷ []) ∷ []
unfolding base_table reaches longest
multihop = refl

pub multihop_of_one : sessions_in (far 65002 (record (from_loopback (address 192 168 0 2) 65002) { multihop = true }) (from_loopback (address 192 168 0 1) 65001) default) ≡ [] ∷ [] ∷ []
unfolding base_table reaches longest
multihop_of_one = refl

-- within one system it isn't needed
pub inside : map (map (λ s. s.internal)) (sessions_in (far 65001 (from_loopback (address 192 168 0 2) 65001) (from_loopback (address 192 168 0 1) 65001) default))
    ≡ (true ∷ []) ∷ (true ∷ []) ∷ []
unfolding base_table reaches longest
inside = refl

-- each side has to reach the other: where the first has no route, neither has a session
pub unreached : sessions_in (far 65001 (from_loopback (address 192 168 0 2) 65001) (from_loopback (address 192 168 0 1) 65001) []) ≡ [] ∷ [] ∷ []
unfolding base_table reaches longest
unreached = refl

-- ---- where a session starts

-- the end of a statement of the first of two routers, which has two equal routes to the second's loopback; its own is shut
abbrev pub end_of : Neighbor → End
end_of statement =
    let own : ProcessView = process 65001 1 (statement ∷ []) [] [] in
    record {
      config =
          router (interface (codes "Ethernet0") (address 10 0 12 1) (prefix 10 0 12 0 30) ∷ interface (codes "Ethernet1") (address 10 0 13 1) (prefix 10 0 13 0 30)
          ∷ record (interface (codes "Loopback0") (address 192 168 0 1) (prefix 192 168 0 1 32)) { shut = true } ∷ [])
          (route_to (prefix 192 168 0 2 32) (address 10 0 13 2) ∷ route_to (prefix 192 168 0 2 32) (address 10 0 12 2) ∷ []) (Some own) [] [];
      process = own;
      statement = statement;
    }

abbrev pub starts : Neighbor → Option SourceOf
starts statement = source_of ((end_of statement).config ∷ []) (base_tables ((end_of statement).config ∷ [])) 0 (end_of statement)

-- by the first hit, which is that of the first route; from the interface that is named; and from none that is shut
pub sources : starts (neighbor (address 192 168 0 2) 65001 None None) ∷ starts (neighbor (address 192 168 0 2) 65001 (Some (refers (codes "Ethernet0"))) None)
    ∷ starts (neighbor (address 192 168 0 2) 65001 (Some (refers (codes "Loopback0"))) None) ∷ starts (neighbor (address 172 16 0 1) 65001 None None) ∷ []
    ≡ Some (record { iface = 1; addr = address 10 0 13 1 }) ∷ Some (record { iface = 0; addr = address 10 0 12 1 }) ∷ None ∷ None ∷ []
unfolding base_table longest
sources = refl

-- ---- the session of a statement, among those of a router

pub found : session_in (record { router = record { 0 = 0 }; neighbor = 1; peer = record { 0 = 1 }; peer_neighbor = 0; source = record { 0 = 1 }; peer_source = record { 0 = 0 }; internal = false } ∷ []) 0 ≡ None
found = refl
