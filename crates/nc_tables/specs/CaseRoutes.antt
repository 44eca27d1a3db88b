-- BGP between routers: worked cases bgp-route, loopback-ibgp-session, aggregate-two-contributors and unstable.
use Rattle.std.specs.Prelude.{◌≡◌, true, false, List, [], ◌∷◌, map, Option, Some, None, codes, refl}
use Rattle.nc_types.specs.Config.{ConfigView, ClauseView}
use Rattle.nc_types.specs.declared.config.Reference.{Reference}
use Rattle.nc_tables.specs.Base.{base_table}
use Rattle.nc_tables.specs.Longest.{longest}
use Rattle.nc_tables.specs.Reach.{reaches}
use Rattle.nc_tables.specs.Sessions.{router_id}
use Rattle.nc_tables.specs.Policy.{verdict}
use Rattle.nc_tables.specs.Choice.{choose, preference_cmp}
use Rattle.nc_tables.specs.Rounds.{after, message_at, accepted_at}
use Rattle.nc_tables.specs.Main.{main_table}
use Rattle.nc_tables.specs.Cases.{address, prefix, interface, route_to, neighbor, process, router, sessions_in, state, mains, Settles, paths_at}

-- ---- two systems, the first of which originates its network

abbrev pub pair : List ConfigView
pair =
    router (interface [] (address 10 0 12 1) (prefix 10 0 12 0 30) ∷ interface [] (address 10 1 0 1) (prefix 10 1 0 0 24) ∷ []) []
    (Some (process 65001 1 (neighbor (address 10 0 12 2) 65002 None None ∷ []) (prefix 10 1 0 0 24 ∷ []) [])) [] []
    ∷ router (interface [] (address 10 0 12 2) (prefix 10 0 12 0 30) ∷ []) []
    (Some (process 65002 1 (neighbor (address 10 0 12 1) 65001 None None ∷ []) [] [])) [] []
    ∷ []

pub pair_sessions : map (map (λ s. s.internal)) (sessions_in pair) ≡ (false ∷ []) ∷ (false ∷ []) ∷ []
unfolding base_table reaches longest
pair_sessions = refl

-- nothing changes behind two rounds; behind one the second router learns the route
pub pair_settles : Settles pair 2
unfolding base_table reaches longest after message_at accepted_at choose preference_cmp verdict
pair_settles = refl

pub pair_learns : paths_at (state pair 1) ≡ (([] ∷ []) ∷ []) ∷ [] ∷ []
unfolding base_table reaches longest after message_at accepted_at choose preference_cmp verdict
pair_learns = refl

pub pair_learnt : paths_at (state pair 2) ≡ (([] ∷ []) ∷ []) ∷ (((65001 ∷ []) ∷ []) ∷ []) ∷ []
unfolding base_table reaches longest after message_at accepted_at choose preference_cmp verdict
pair_learnt = refl

-- the second router has the connected network at distance 0, and the learnt one at 20
pub pair_mains : map (map (λ row. row.distance)) (mains pair 2) ≡ (0 ∷ 0 ∷ []) ∷ (0 ∷ 20 ∷ []) ∷ []
unfolding base_table reaches longest after message_at accepted_at choose preference_cmp verdict main_table
pair_mains = refl

-- ---- a session between loopbacks of one system, over two links

abbrev pub loopbacks : List ConfigView
loopbacks =
    router (interface (codes "Loopback0") (address 192 168 0 1) (prefix 192 168 0 1 32) ∷ interface [] (address 10 0 12 1) (prefix 10 0 12 0 30) ∷ interface [] (address 10 0 13 1) (prefix 10 0 13 0 30) ∷ [])
    (route_to (prefix 192 168 0 2 32) (address 10 0 12 2) ∷ route_to (prefix 192 168 0 2 32) (address 10 0 13 2) ∷ [])
    (Some (process 65001 1 (neighbor (address 192 168 0 2) 65001 (Some (record { name = codes "Loopback0"; line = 0 })) None ∷ []) [] [])) [] []
    ∷ router (interface (codes "Loopback0") (address 192 168 0 2) (prefix 192 168 0 2 32) ∷ interface [] (address 10 0 12 2) (prefix 10 0 12 0 30) ∷ interface [] (address 10 0 13 2) (prefix 10 0 13 0 30) ∷ [])
    (route_to (prefix 192 168 0 1 32) (address 10 0 12 1) ∷ route_to (prefix 192 168 0 1 32) (address 10 0 13 1) ∷ [])
    (Some (process 65001 1 (neighbor (address 192 168 0 1) 65001 (Some (record { name = codes "Loopback0"; line = 0 })) None ∷ []) [] [])) [] []
    ∷ []

pub loopback_sessions : map (map (λ s. s.internal)) (sessions_in loopbacks) ≡ (true ∷ []) ∷ (true ∷ []) ∷ []
unfolding base_table reaches longest
loopback_sessions = refl

pub loopback_ids : map router_id loopbacks ≡ address 192 168 0 1 ∷ address 192 168 0 2 ∷ []
loopback_ids = refl

-- ---- an aggregate over two networks

abbrev pub summary : List ConfigView
summary =
    router (interface [] (address 10 1 0 1) (prefix 10 1 0 0 24) ∷ interface [] (address 10 1 1 1) (prefix 10 1 1 0 24) ∷ []) []
    (Some (process 65001 1 [] (prefix 10 1 0 0 24 ∷ prefix 10 1 1 0 24 ∷ []) (prefix 10 1 0 0 16 ∷ []))) [] []
    ∷ []

-- it is active from the second round on, and discards at distance 200
pub summary_settles : Settles summary 2
unfolding base_table reaches longest after message_at accepted_at choose preference_cmp verdict
summary_settles = refl

pub summary_prefixes : map (map (λ row. row.prefix.len)) (mains summary 2) ≡ (16 ∷ 24 ∷ 24 ∷ []) ∷ []
unfolding base_table reaches longest after message_at accepted_at choose preference_cmp verdict main_table
summary_prefixes = refl

pub summary_mains : map (map (λ row. row.distance)) (mains summary 2) ≡ (200 ∷ 0 ∷ 0 ∷ []) ∷ []
unfolding base_table reaches longest after message_at accepted_at choose preference_cmp verdict main_table
summary_mains = refl

-- ---- three systems, of which two prefer the path over each other

-- a map that prefers what it lets pass
abbrev pub up : ClauseView
up =
    record { map_name = codes "UP"; number = 10; permit = true; lists = []; community_lists = []; preference = Some 200; metric = None; prepend = []; origin = None; communities = None; element = 0 }

abbrev pub in_up : Option Reference
in_up = Some (record { name = codes "UP"; line = 0 })

abbrev pub dispute : List ConfigView
dispute =
    router (interface [] (address 10 0 1 1) (prefix 10 0 1 0 30) ∷ interface [] (address 10 0 2 1) (prefix 10 0 2 0 30) ∷ interface [] (address 10 9 0 1) (prefix 10 9 0 0 24) ∷ []) []
    (Some (process 65000 1 (neighbor (address 10 0 1 2) 65001 None None ∷ neighbor (address 10 0 2 2) 65002 None None ∷ []) (prefix 10 9 0 0 24 ∷ []) [])) [] []
    ∷ router (interface [] (address 10 0 1 2) (prefix 10 0 1 0 30) ∷ interface [] (address 10 0 3 1) (prefix 10 0 3 0 30) ∷ []) []
    (Some (process 65001 1 (neighbor (address 10 0 1 1) 65000 None None ∷ neighbor (address 10 0 3 2) 65002 None in_up ∷ []) [] [])) (up ∷ []) []
    ∷ router (interface [] (address 10 0 2 2) (prefix 10 0 2 0 30) ∷ interface [] (address 10 0 3 2) (prefix 10 0 3 0 30) ∷ []) []
    (Some (process 65002 1 (neighbor (address 10 0 2 1) 65000 None None ∷ neighbor (address 10 0 3 1) 65001 None in_up ∷ []) [] [])) (up ∷ []) []
    ∷ []

-- both take the path over each other, and then both take the direct one again
pub dispute_over : paths_at (state dispute 3)
    ≡ (([] ∷ []) ∷ []) ∷ (((65002 ∷ 65000 ∷ []) ∷ []) ∷ []) ∷ (((65001 ∷ 65000 ∷ []) ∷ []) ∷ []) ∷ []
unfolding base_table reaches longest after message_at accepted_at choose preference_cmp verdict
dispute_over = refl

pub dispute_direct : paths_at (state dispute 4) ≡ (([] ∷ []) ∷ []) ∷ (((65000 ∷ []) ∷ []) ∷ []) ∷ (((65000 ∷ []) ∷ []) ∷ []) ∷ []
unfolding base_table reaches longest after message_at accepted_at choose preference_cmp verdict
dispute_direct = refl

-- so it goes on for ever: the state behind four rounds is that behind two
pub dispute_repeats : state dispute 4 ≡ state dispute 2
unfolding base_table reaches longest after message_at accepted_at choose preference_cmp verdict
dispute_repeats = refl
