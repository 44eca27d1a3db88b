-- A chain of routers, on which the limit of hops is met: a session over thirty hops is established, and one over thirty-one isn't.
use Rattle.std.specs.Prelude.{◌≡◌, ℕ, ◌-◌, List, [], ◌∷◌, ◌++◌, map, Some, None, refl}
use Rattle.std.specs.List.{range_with_len}
use Rattle.nc_types.specs.Config.{ConfigView}
use Rattle.nc_types.specs.declared.config.Interface.{Interface}
use Rattle.nc_tables.specs.Base.{base_table, base_tables}
use Rattle.nc_tables.specs.Longest.{longest}
use Rattle.nc_tables.specs.Reach.{reaches}
use Rattle.nc_tables.specs.Sessions.{sessions_of}
use Rattle.nc_tables.specs.Cases.{address, prefix, interface, route_to, neighbor, process, router}

-- the link behind the router of this number, at whose end it is the first or the second
abbrev pub link_end : ℕ → ℕ → Interface
link_end number end = interface [] (address 10 0 number end) (prefix 10 0 number 0 30)

-- a router in the middle: to the first link downward, to the last one upward
abbrev pub middle : ℕ → ℕ → ConfigView
middle last number =
    router (link_end (number - 1) 2 ∷ link_end number 1 ∷ []) (route_to (prefix 10 0 0 0 30) (address 10 0 (number - 1) 1) ∷ route_to (prefix 10 0 last 0 30) (address 10 0 number 2) ∷ []) None [] []

-- the two ends, with a session between their addresses
abbrev pub head : ℕ → ConfigView
head last =
    router (link_end 0 1 ∷ []) (route_to (prefix 10 0 last 0 30) (address 10 0 0 2) ∷ []) (Some (process 65001 1 (neighbor (address 10 0 last 2) 65001 None None ∷ []) [] [])) [] []

abbrev pub tail : ℕ → ConfigView
tail last =
    router (link_end last 2 ∷ []) (route_to (prefix 10 0 0 0 30) (address 10 0 last 1) ∷ []) (Some (process 65001 1 (neighbor (address 10 0 0 1) 65001 None None ∷ []) [] [])) [] []

-- a chain of so many hops, two at least
abbrev pub chain : ℕ → List ConfigView
chain hops = head (hops - 1) ∷ map (middle (hops - 1)) (range_with_len 1 (hops - 1)) ++ (tail (hops - 1) ∷ [])

-- the sessions of both ends, by the routers with which they are
abbrev pub peers : ℕ → List (List ℕ)
peers hops =
    let routers = chain hops in
    let tables = base_tables routers in
    map (λ router. map (λ s. s.peer.0) (sessions_of routers tables router)) (0 ∷ hops ∷ [])

pub thirty : peers 30 ≡ (30 ∷ []) ∷ (0 ∷ []) ∷ []
unfolding base_table reaches longest
thirty = refl

pub thirty_one : peers 31 ≡ [] ∷ [] ∷ []
unfolding base_table reaches longest
thirty_one = refl
