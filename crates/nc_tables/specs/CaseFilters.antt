-- Access lists and flows: which addresses an entry's wildcard covers, what lists say of packets, and a packet that a list stops on one of
-- two ways.
use Rattle.std.specs.Prelude.{◌≡◌, ℕ, Bool, true, false, List, [], ◌∷◌, map, None, codes, refl}
use Rattle.nc_types.specs.Config.{ConfigView}
use Rattle.nc_types.specs.declared.filters.AddrMatch.{AddrMatch}
use Rattle.nc_types.specs.declared.filters.FilterEntry.{FilterEntry}
use Rattle.nc_types.specs.declared.filters.Group.{Group}
use Rattle.nc_tables.specs.declared.filters.Passing.{Passing}
use Rattle.nc_tables.specs.declared.filters.Passing.TheVariants.{Free, Deny, By}
use Rattle.nc_tables.specs.Base.{base_table, base_tables}
use Rattle.nc_tables.specs.Filters.{matches, passing, passes}
use Rattle.nc_tables.specs.Flows.{flows, flow_step_at}
use Rattle.nc_tables.specs.Longest.{longest}
use Rattle.nc_tables.specs.Main.{main_table, main_tables}
use Rattle.nc_tables.specs.State.{StateView}
use Rattle.nc_tables.specs.Cases.{address, prefix, interface, route_to, router}

-- ---- addresses

abbrev pub like : ℕ → ℕ → AddrMatch
like addr wild = record { addr = record { 0 = addr }; wild = record { 0 = wild } }

abbrev pub host : ℕ → AddrMatch
host addr = like addr 0

abbrev pub any : AddrMatch
any = like 0 (address 255 255 255 255)

-- a network, a host, all, and a wildcard with a hole: the third byte has to be even
pub covered : matches (like (address 10 1 0 0) 255) (address 10 1 0 5) ∷ matches (like (address 10 1 0 0) 255) (address 10 1 1 5) ∷ matches (host (address 10 2 0 9)) (address 10 2 0 9)
    ∷ matches (host (address 10 2 0 9)) (address 10 2 0 8) ∷ matches any (address 172 16 0 1) ∷ matches (like (address 10 0 0 0) (address 0 0 254 255)) (address 10 0 6 7)
    ∷ matches (like (address 10 0 0 0) (address 0 0 254 255)) (address 10 0 7 7) ∷ [] ≡ true ∷ false ∷ true ∷ false ∷ true ∷ true ∷ false ∷ []
covered = refl

-- ---- two routers, with two ways from the first to 10.2.0.0/24; the second filters what comes in by the first of them

abbrev pub entry : List ℕ → Bool → Bool → AddrMatch → AddrMatch → FilterEntry
entry list permit ip from to = record { list = list; permit = permit; ip = ip; from = from; to = to; element = 0 }

abbrev pub group : List ℕ → Bool → List ℕ → Group
group iface inward list = record { iface = iface; inward = inward; list = list; element = 0 }

-- the list denies one host, has an entry of another protocol, and permits all else; another one has entries of another protocol alone
abbrev pub lists : List FilterEntry
lists =
    entry (codes "F") false true (like (address 10 1 0 0) 255) (host (address 10 2 0 9)) ∷ entry (codes "T") true false any any
    ∷ entry (codes "F") true false any any ∷ entry (codes "F") true true any any ∷ []

abbrev pub one : ConfigView
one =
    router (interface (codes "E0") (address 10 0 12 1) (prefix 10 0 12 0 30) ∷ interface (codes "E1") (address 10 0 13 1) (prefix 10 0 13 0 30) ∷ interface (codes "E2") (address 10 1 0 1) (prefix 10 1 0 0 24) ∷ [])
    (route_to (prefix 10 2 0 0 24) (address 10 0 12 2) ∷ route_to (prefix 10 2 0 0 24) (address 10 0 13 2) ∷ []) None [] []

abbrev pub two : List Group → ConfigView
two groups =
    record (router (interface (codes "E0") (address 10 0 12 2) (prefix 10 0 12 0 30) ∷ interface (codes "E1") (address 10 0 13 2) (prefix 10 0 13 0 30) ∷ interface (codes "E2") (address 10 2 0 1) (prefix 10 2 0 0 24) ∷ []) [] None [] [])
    { filters = lists; groups = groups }

abbrev pub inward : List Group
inward = group (codes "E0") true (codes "F") ∷ []

abbrev pub said : List Group → ℕ → ℕ → Bool → Passing
said groups from iface in_by = passing from (address 10 2 0 9) (two groups) iface in_by

-- the first entry of the list that matches decides, by its place among those of all lists; another direction and another interface have
-- no list
pub decided : said inward (address 10 1 0 5) 0 true ∷ said inward (address 10 3 0 1) 0 true ∷ said inward (address 10 1 0 5) 0 false ∷ said inward (address 10 1 0 5) 1 true ∷ []
    ≡ Deny ∷ By 0 3 ∷ Free ∷ Free ∷ []
unfolding passing
decided = refl

-- a list of other protocols alone denies, one without entries lets pass, and so does one behind an interface that isn't there
pub odd_lists : said (group (codes "E0") true (codes "T") ∷ group (codes "E1") true (codes "N") ∷ []) 0 0 true ∷ said (group (codes "E0") true (codes "T") ∷ group (codes "E1") true (codes "N") ∷ []) 0 1 true
    ∷ said (group (codes "E9") true (codes "T") ∷ []) 0 9 true ∷ [] ≡ Deny ∷ Free ∷ Free ∷ []
unfolding passing
odd_lists = refl

-- ---- flows

abbrev pub state : List Group → StateView
state groups =
    let routers = one ∷ two groups ∷ [] in
    record { routers = routers; base = base_tables routers; sessions = [] ∷ [] ∷ []; bgp = [] ∷ [] ∷ []; main = main_tables routers (base_tables routers) ([] ∷ [] ∷ []) }

abbrev pub steps : List Group → ℕ → List Bool
steps groups from = map (λ way. flow_step_at (state groups) from (address 10 2 0 9) 0 way 1) (0 ∷ 1 ∷ 2 ∷ [])

-- a packet that is denied on one of two ways takes the other, and one that isn't takes both
pub stopped : steps inward (address 10 1 0 5) ≡ false ∷ true ∷ false ∷ []
unfolding passing flows base_table longest main_table
stopped = refl

pub let_in : steps inward (address 10 3 0 1) ≡ true ∷ true ∷ false ∷ []
unfolding passing flows base_table longest main_table
let_in = refl

-- so it arrives; also from the second router, whatever comes in there; but not where both ways are filtered, nor where what goes out is
abbrev pub arrives : List Group → ℕ → Bool
arrives groups r = flows (state groups) (address 10 1 0 5) (address 10 2 0 9) 1 r

pub arrivals : arrives inward 0 ∷ arrives inward 1 ∷ arrives (group (codes "E1") true (codes "F") ∷ inward) 0 ∷ arrives (group (codes "E1") true (codes "F") ∷ inward) 1 ∷ arrives (group (codes "E2") false (codes "F") ∷ []) 1 ∷ []
    ≡ true ∷ true ∷ false ∷ true ∷ false ∷ []
unfolding passing flows base_table longest main_table
arrivals = refl

-- to another address the entry of the host doesn't decide, and the last one lets pass
pub elsewhere : passing (address 10 1 0 5) (address 10 2 0 8) (two inward) 0 true ≡ By 0 3
unfolding passing
elsewhere = refl

-- an interface that is shut lets nothing pass, and one that is up and has no list everything
abbrev pub with_shut : ConfigView
with_shut = router (interface (codes "E0") (address 10 0 12 1) (prefix 10 0 12 0 30) ∷ record (interface (codes "E1") (address 10 0 13 1) (prefix 10 0 13 0 30)) { shut = true } ∷ []) [] None [] []

pub through_shut : passes (address 10 1 0 5) (address 10 2 0 9) (with_shut ∷ []) 0 0 false ∷ passes (address 10 1 0 5) (address 10 2 0 9) (with_shut ∷ []) 0 1 false ∷ [] ≡ true ∷ false ∷ []
unfolding passing
through_shut = refl

-- thirty hops are not too many, and thirty-one are
pub most_hops : map (λ hops. flow_step_at (state inward) (address 10 1 0 5) (address 10 2 0 9) 0 1 hops) (0 ∷ 30 ∷ 31 ∷ []) ≡ false ∷ true ∷ false ∷ []
unfolding passing flows base_table longest main_table
most_hops = refl
