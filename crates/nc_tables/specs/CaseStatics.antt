-- Two routers with two links between them, and two static routes of equal cost: worked case ecmp-reach, and every-path.
use Rattle.std.specs.Prelude.{◌≡◌, true, false, List, [], ◌∷◌, map, None, refl}
use Rattle.nc_types.specs.Config.{ConfigView}
use Rattle.nc_tables.specs.Base.{base_table, base_tables}
use Rattle.nc_tables.specs.Longest.{longest}
use Rattle.nc_tables.specs.Reach.{reaches}
use Rattle.nc_tables.specs.Rounds.{after}
use Rattle.nc_tables.specs.Main.{main_table}
use Rattle.nc_tables.specs.Forwarding.{traces, all_trace}
use Rattle.nc_tables.specs.Cases.{address, prefix, interface, route_to, router, state, mains}

abbrev pub first : ConfigView
first =
    router (interface [] (address 10 0 12 1) (prefix 10 0 12 0 30) ∷ interface [] (address 10 0 13 1) (prefix 10 0 13 0 30) ∷ interface [] (address 10 1 0 1) (prefix 10 1 0 0 24) ∷ [])
    (route_to (prefix 10 2 0 0 24) (address 10 0 12 2) ∷ route_to (prefix 10 2 0 0 24) (address 10 0 13 2) ∷ []) None [] []

abbrev pub second : ConfigView
second =
    router (interface [] (address 10 0 12 2) (prefix 10 0 12 0 30) ∷ interface [] (address 10 0 13 2) (prefix 10 0 13 0 30) ∷ interface [] (address 10 2 0 1) (prefix 10 2 0 0 24) ∷ [])
    [] None [] []

abbrev pub pair : List ConfigView
pair = first ∷ second ∷ []

-- three connected rows and the two static ones, in order of prefix
pub pair_bases : map (map (λ row. row.prefix.base)) (base_tables pair)
    ≡ (address 10 0 12 0 ∷ address 10 0 13 0 ∷ address 10 1 0 0 ∷ address 10 2 0 0 ∷ address 10 2 0 0 ∷ []) ∷ (address 10 0 12 0 ∷ address 10 0 13 0 ∷ address 10 2 0 0 ∷ []) ∷ []
unfolding base_table
pair_bases = refl

-- the second router's own address is one hop away
pub pair_reaches : reaches pair (base_tables pair) 1 0 (address 10 2 0 1) ≡ true
unfolding base_table reaches longest
pair_reaches = refl

pub pair_needs_a_hop : reaches pair (base_tables pair) 0 0 (address 10 2 0 1) ≡ false
unfolding base_table reaches longest
pair_needs_a_hop = refl

-- a packet to a host behind the second router arrives by one way, and by every way
pub pair_traces : traces pair (base_tables pair) (state pair 0) (mains pair 0) 1 0 (address 10 2 0 9) ≡ true
unfolding base_table reaches longest after main_table traces
pair_traces = refl

pub pair_traces_all : all_trace pair (base_tables pair) (state pair 0) (mains pair 0) 1 0 (address 10 2 0 9) ≡ true
unfolding base_table reaches longest after main_table all_trace
pair_traces_all = refl
