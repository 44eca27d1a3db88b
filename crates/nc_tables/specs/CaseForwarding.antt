-- Main tables and forwarding: the nearer of two sides, rows that discard, the alternatives of each kind of row, and packets that arrive
-- by some way and by every way.
use Rattle.std.specs.Prelude.{◌≡◌, ℕ, Bool, true, false, List, [], ◌∷◌, ◌++◌, Option, Some, None, refl}
use Rattle.nc_types.specs.Cidr.{Cidr}
use Rattle.nc_types.specs.Config.{ConfigView}
use Rattle.nc_types.specs.declared.config.StaticRoute.{StaticRoute}
use Rattle.nc_types.specs.declared.config.Via.TheVariants.{Null}
use Rattle.nc_types.specs.declared.config.OriginCode.TheVariants.{Igp}
use Rattle.nc_tables.specs.declared.bgp.Chosen.{Chosen}
use Rattle.nc_tables.specs.declared.bgp.BgpFrom.TheVariants.{Origin, Entry}
use Rattle.nc_tables.specs.declared.bgp.MainRow.{MainRow}
use Rattle.nc_tables.specs.declared.bgp.MainFrom.{MainFrom}
use Rattle.nc_tables.specs.declared.bgp.MainFrom.TheVariants.{Base, Bgp, Discard}
use Rattle.nc_tables.specs.Base.{base_table, base_tables}
use Rattle.nc_tables.specs.Longest.{longest}
use Rattle.nc_tables.specs.Rounds.{BgpRowView}
use Rattle.nc_tables.specs.Main.{main_table, main_tables}
use Rattle.nc_tables.specs.Forwarding.{Alternative, Outcome, Deliver, Go, Lost, alternatives, exit_iface, traces, all_trace, step_at, all_step_at}
use Rattle.nc_tables.specs.Levels.{reach_level, trace_level, all_trace_level}
use Rattle.nc_tables.specs.Cases.{address, prefix, interface, route_to, process, router, candidate}

-- ---- parts

abbrev pub discard_at : Cidr → ℕ → StaticRoute
discard_at p distance = record { prefix = p; via = Null; distance = distance; element = 0 }

-- what was chosen of a prefix: learnt from another system, inside the own one, or begun
abbrev pub external : Chosen
external = candidate (Entry 0) 100 (65009 ∷ []) Igp 0 false 9 (address 10 0 12 2)

abbrev pub internal : Chosen
internal = candidate (Entry 1) 100 (65009 ∷ []) Igp 0 true 9 (address 192 168 0 9)

abbrev pub begun : Chosen
begun = candidate (Origin 0) 100 [] Igp 0 false 0 0

abbrev pub row : Cidr → List Chosen → BgpRowView
row p chosen = record { prefix = p; chosen = chosen }

-- ---- main tables

-- static routes that discard, of the distances at which BGP's rows stand, and of one more
abbrev pub sides : List ConfigView
sides =
    router (interface [] (address 10 0 12 1) (prefix 10 0 12 0 30) ∷ [])
    (discard_at (prefix 10 20 0 0 24) 20 ∷ discard_at (prefix 10 21 0 0 24) 21 ∷ discard_at (prefix 10 30 0 0 24) 200 ∷ discard_at (prefix 10 31 0 0 24) 201
    ∷ discard_at (prefix 10 40 0 0 16) 200 ∷ discard_at (prefix 10 41 0 0 16) 201 ∷ [])
    (Some (process 65001 2 [] [] (prefix 10 40 0 0 16 ∷ prefix 10 41 0 0 16 ∷ prefix 10 42 0 0 16 ∷ prefix 10 43 0 0 16 ∷ prefix 10 45 0 0 16 ∷ []))) [] []
    ∷ []

-- aggregates are active by what is inside 10.40.0.0/16, 10.41.0.0/16, 10.42.0.0/16 and 10.45.0.0/16; the last has no row itself
abbrev pub sides_bgp : List (List BgpRowView)
sides_bgp =
    (row (prefix 10 20 0 0 24) (external ∷ []) ∷ row (prefix 10 21 0 0 24) (external ∷ []) ∷ row (prefix 10 22 0 0 24) (external ∷ external ∷ [])
    ∷ row (prefix 10 30 0 0 24) (internal ∷ []) ∷ row (prefix 10 31 0 0 24) (internal ∷ []) ∷ row (prefix 10 40 1 0 24) (external ∷ [])
    ∷ row (prefix 10 41 1 0 24) (internal ∷ []) ∷ row (prefix 10 42 0 0 16) (external ∷ []) ∷ row (prefix 10 42 1 0 24) (begun ∷ [])
    ∷ row (prefix 10 44 0 0 24) (begun ∷ []) ∷ row (prefix 10 45 1 0 24) (external ∷ []) ∷ []) ∷ []

abbrev pub main : Cidr → ℕ → MainFrom → MainRow
main p distance from = record { prefix = p; distance = distance; from = from }

-- a base row of the same distance comes before BGP's rows, and one of a greater distance doesn't; an active aggregate discards, also
-- where something was learnt of its prefix, or where it has no row; what was begun has no row of its own
pub main_rows : main_tables sides (base_tables sides) sides_bgp
    ≡ (main (prefix 10 0 12 0 30) 0 (Base 0) ∷ main (prefix 10 20 0 0 24) 20 (Base 1) ∷ main (prefix 10 21 0 0 24) 20 (Bgp 0)
    ∷ main (prefix 10 22 0 0 24) 20 (Bgp 0) ∷ main (prefix 10 22 0 0 24) 20 (Bgp 1) ∷ main (prefix 10 30 0 0 24) 200 (Base 3)
    ∷ main (prefix 10 31 0 0 24) 200 (Bgp 0) ∷ main (prefix 10 40 0 0 16) 200 (Base 5) ∷ main (prefix 10 40 1 0 24) 20 (Bgp 0)
    ∷ main (prefix 10 41 0 0 16) 200 (Discard 1) ∷ main (prefix 10 41 1 0 24) 200 (Bgp 0) ∷ main (prefix 10 42 0 0 16) 200 (Discard 2)
    ∷ main (prefix 10 45 0 0 16) 200 (Discard 4) ∷ main (prefix 10 45 1 0 24) 20 (Bgp 0) ∷ []) ∷ []
unfolding base_table main_table
main_rows = refl

-- ---- three routers: the first has two ways to 10.2.0.0/24, which the second has and the third knows nothing of

abbrev pub branching : List ConfigView
branching =
    router (interface [] (address 10 0 12 1) (prefix 10 0 12 0 30) ∷ interface [] (address 10 0 13 1) (prefix 10 0 13 0 30) ∷ interface [] (address 10 1 0 1) (prefix 10 1 0 0 24) ∷ [])
    (route_to (prefix 10 2 0 0 24) (address 10 0 12 2) ∷ route_to (prefix 10 2 0 0 24) (address 10 0 13 2) ∷ route_to (prefix 10 6 0 0 24) (address 10 0 12 3)
    ∷ discard_at (prefix 10 7 0 0 24) 1 ∷ route_to (prefix 192 168 0 9 32) (address 10 0 12 2) ∷ route_to (prefix 192 168 0 9 32) (address 10 0 13 2) ∷ [])
    (Some (process 65001 1 [] [] (prefix 10 40 0 0 16 ∷ []))) [] []
    ∷ router (interface [] (address 10 0 12 2) (prefix 10 0 12 0 30) ∷ interface [] (address 10 2 0 1) (prefix 10 2 0 0 24) ∷ []) [] None [] []
    ∷ router (interface [] (address 10 1 0 7) (prefix 10 1 0 0 25) ∷ interface [] (address 10 0 13 2) (prefix 10 0 13 0 30) ∷ []) [] None [] []
    ∷ []

abbrev pub branching_bgp : List (List BgpRowView)
branching_bgp =
    (row (prefix 10 9 0 0 24) (internal ∷ []) ∷ row (prefix 10 40 1 0 24) (external ∷ []) ∷ []) ∷ [] ∷ [] ∷ []

-- the first router's rows are 10.0.12.0/30, 10.0.13.0/30, 10.1.0.0/24, two of 10.2.0.0/24, 10.6.0.0/24, 10.7.0.0/24, 10.9.0.0/24,
-- 10.40.0.0/16, 10.40.1.0/24 and two of 192.168.0.9/32; in its base table the last two have the places 7 and 8
abbrev pub ways : ℕ → List Alternative
ways addr = alternatives branching (base_tables branching) branching_bgp (main_tables branching (base_tables branching) branching_bgp) 0 addr

abbrev pub way : ℕ → Option ℕ → Outcome → Alternative
way main base outcome = record { main = main; base = base; outcome = outcome }

abbrev pub to_second : Outcome
to_second = Go (record { router = 1; place = 0 })

abbrev pub to_third : Outcome
to_third = Go (record { router = 2; place = 1 })

-- a connected row delivers to hosts, goes to a router's interface on the link, and loses what a router elsewhere owns
pub way_to_host : ways (address 10 1 0 9) ≡ way 2 None Deliver ∷ []
unfolding base_table longest main_table
way_to_host = refl

pub way_to_router : ways (address 10 0 12 2) ≡ way 0 None to_second ∷ []
unfolding base_table longest main_table
way_to_router = refl

pub way_elsewhere : ways (address 10 1 0 7) ≡ way 2 None Lost ∷ []
unfolding base_table longest main_table
way_elsewhere = refl

-- a static row goes to its next hop, and loses where nobody has that
pub ways_of_statics : ways (address 10 2 0 9) ≡ way 3 None to_second ∷ way 4 None to_third ∷ []
unfolding base_table longest main_table
ways_of_statics = refl

pub way_to_nobody : ways (address 10 6 0 1) ≡ way 5 None Lost ∷ []
unfolding base_table longest main_table
way_to_nobody = refl

pub way_discarded : ways (address 10 7 0 1) ≡ way 6 None Lost ∷ []
unfolding base_table longest main_table
way_discarded = refl

-- a BGP row has a way by each hit toward its next hop
pub ways_of_bgp : ways (address 10 9 0 1) ≡ way 7 (Some 7) to_second ∷ way 7 (Some 8) to_third ∷ []
unfolding base_table longest main_table
ways_of_bgp = refl

-- an aggregate's row loses, but for what is inside it
pub way_of_aggregate : ways (address 10 40 0 1) ≡ way 8 None Lost ∷ []
unfolding base_table longest main_table
way_of_aggregate = refl

pub way_inside : ways (address 10 40 1 1) ≡ way 9 (Some 0) to_second ∷ []
unfolding base_table longest main_table
way_inside = refl

pub no_way : ways (address 172 16 0 1) ≡ []
unfolding base_table longest main_table
no_way = refl

-- ---- by which interface

abbrev pub leaves_by : ℕ → Alternative → Option ℕ
leaves_by addr x = exit_iface branching (base_tables branching) branching_bgp (main_tables branching (base_tables branching) branching_bgp) 0 addr x

pub interfaces_left : leaves_by (address 10 1 0 9) (way 2 None Deliver) ∷ leaves_by (address 10 2 0 9) (way 4 None to_third) ∷ leaves_by (address 10 9 0 1) (way 7 (Some 8) to_third)
    ∷ leaves_by (address 10 40 0 1) (way 8 None Lost) ∷ leaves_by (address 10 7 0 1) (way 6 None Lost) ∷ []
    ≡ Some 2 ∷ Some 1 ∷ Some 1 ∷ None ∷ None ∷ []
unfolding base_table longest main_table
interfaces_left = refl

-- ---- arriving

abbrev pub mains : List (List MainRow)
mains = main_tables branching (base_tables branching) branching_bgp

-- by one way over one hop: from the first router, from the second itself, and not from the third
abbrev pub some_way_from : ℕ → ℕ → Bool
some_way_from hops router = traces branching (base_tables branching) branching_bgp mains hops router (address 10 2 0 9)

abbrev pub every_way_from : ℕ → ℕ → Bool
every_way_from hops router = all_trace branching (base_tables branching) branching_bgp mains hops router (address 10 2 0 9)

pub by_some_way : some_way_from 1 0 ∷ some_way_from 1 1 ∷ some_way_from 1 2 ∷ [] ≡ true ∷ true ∷ false ∷ []
unfolding base_table longest main_table traces
by_some_way = refl

pub without_a_hop : some_way_from 0 0 ∷ some_way_from 0 1 ∷ some_way_from 0 2 ∷ [] ≡ false ∷ true ∷ false ∷ []
unfolding base_table longest main_table traces
without_a_hop = refl

-- not by every way: the third router has none
pub by_every_way : every_way_from 1 0 ∷ every_way_from 1 1 ∷ every_way_from 1 2 ∷ [] ≡ false ∷ true ∷ false ∷ []
unfolding base_table longest main_table all_trace
by_every_way = refl

-- an owner needs no way
pub by_owner : traces branching (base_tables branching) branching_bgp mains 0 1 (address 10 2 0 1) ∷ all_trace branching (base_tables branching) branching_bgp mains 0 1 (address 10 2 0 1) ∷ []
    ≡ true ∷ true ∷ []
unfolding base_table longest main_table traces all_trace
by_owner = refl

-- what is lost doesn't arrive
pub by_lost_way : traces branching (base_tables branching) branching_bgp mains 1 0 (address 10 7 0 1) ∷ all_trace branching (base_tables branching) branching_bgp mains 1 0 (address 10 7 0 1) ∷ []
    ≡ false ∷ false ∷ []
unfolding base_table longest main_table traces all_trace
by_lost_way = refl

-- a fourth router that has its one way to the first, from where some way leads on and not every one
abbrev pub before_branching : List ConfigView
before_branching = branching ++ (router (interface [] (address 10 1 0 8) (prefix 10 1 0 0 24) ∷ []) (route_to (prefix 10 2 0 0 24) (address 10 1 0 1) ∷ []) None [] [] ∷ [])

pub before_ways : step_at before_branching (base_tables before_branching) branching_bgp (main_tables before_branching (base_tables before_branching) branching_bgp) 3 (address 10 2 0 9) 0 2
    ∷ all_step_at before_branching (base_tables before_branching) branching_bgp (main_tables before_branching (base_tables before_branching) branching_bgp) 3 (address 10 2 0 9) 0 2 ∷ []
    ≡ true ∷ false ∷ []
unfolding base_table longest main_table traces all_trace
before_ways = refl

-- one step by its number: the first way over one hop to thirty, and neither without a hop nor over more than thirty; the second and a
-- third, which there isn't, never
abbrev pub step : ℕ → ℕ → Bool
step number hops = step_at branching (base_tables branching) branching_bgp mains 0 (address 10 2 0 9) number hops

abbrev pub all_step : ℕ → ℕ → Bool
all_step number hops = all_step_at branching (base_tables branching) branching_bgp mains 0 (address 10 2 0 9) number hops

pub steps : step 0 0 ∷ step 0 1 ∷ step 0 30 ∷ step 0 31 ∷ step 1 1 ∷ step 2 1 ∷ [] ≡ false ∷ true ∷ true ∷ false ∷ false ∷ false ∷ []
unfolding base_table longest main_table traces
steps = refl

pub all_steps : all_step 0 0 ∷ all_step 0 1 ∷ all_step 0 30 ∷ all_step 0 31 ∷ all_step 1 1 ∷ all_step 2 1 ∷ [] ≡ false ∷ true ∷ true ∷ false ∷ false ∷ false ∷ []
unfolding base_table longest main_table all_trace
all_steps = refl

-- what is delivered needs no hop
pub step_to_host : step_at branching (base_tables branching) branching_bgp mains 0 (address 10 1 0 9) 0 0 ≡ true
unfolding base_table longest main_table traces
step_to_host = refl

-- ---- by levels

pub reach_levels : reach_level branching (base_tables branching) (address 10 2 0 1) 0 ∷ reach_level branching (base_tables branching) (address 10 2 0 1) 1 ∷ []
    ≡ (false ∷ true ∷ false ∷ []) ∷ (true ∷ true ∷ false ∷ []) ∷ []
unfolding base_table longest reach_level
reach_levels = refl

pub trace_levels : trace_level branching (base_tables branching) branching_bgp mains (address 10 2 0 9) 0 ∷ trace_level branching (base_tables branching) branching_bgp mains (address 10 2 0 9) 1 ∷ []
    ≡ (false ∷ true ∷ false ∷ []) ∷ (true ∷ true ∷ false ∷ []) ∷ []
unfolding base_table longest main_table trace_level
trace_levels = refl

pub all_trace_levels : all_trace_level branching (base_tables branching) branching_bgp mains (address 10 2 0 9) 0
    ∷ all_trace_level branching (base_tables branching) branching_bgp mains (address 10 2 0 9) 1 ∷ []
    ≡ (false ∷ true ∷ false ∷ []) ∷ (false ∷ true ∷ false ∷ []) ∷ []
unfolding base_table longest main_table all_trace_level
all_trace_levels = refl
