-- Base tables: which routes are in them, in which order, which of them serve a packet, and where they lead.
use Rattle.std.specs.Prelude.{◌≡◌, ℕ, true, false, List, [], ◌∷◌, map, Some, None, codes, refl}
use Rattle.std.specs.Ordering.{nat_cmp}
use Rattle.std.specs.declared.cmp.Ordering.TheVariants.{Less}
use Rattle.nc_types.specs.Cidr.{Cidr}
use Rattle.nc_types.specs.Config.{ConfigView}
use Rattle.nc_types.specs.declared.config.Interface.{Interface}
use Rattle.nc_types.specs.declared.config.StaticRoute.{StaticRoute}
use Rattle.nc_types.specs.declared.config.Via.TheVariants.{Null, Through}
use Rattle.nc_tables.specs.declared.base.BaseRow.{BaseRow}
use Rattle.nc_tables.specs.declared.base.BaseFrom.{BaseFrom}
use Rattle.nc_tables.specs.declared.base.BaseFrom.TheVariants.{Connected, Static, Null as Discard}
use Rattle.nc_tables.specs.Order.{in_order}
use Rattle.nc_tables.specs.Base.{covers, prefix_cmp, row_cmp, static_at, base_table, base_tables}
use Rattle.nc_tables.specs.Longest.{longest}
use Rattle.nc_tables.specs.Reach.{hits, exit_of, leads_to, own_place, reaches}
use Rattle.nc_tables.specs.Cases.{address, prefix, interface, route_to, router, refers}

-- ---- order

-- of two that are equal the first stays the first
pub stable : in_order {A = ℕ × ℕ} (λ a b. nat_cmp a.0 b.0) ((2, 7) ∷ (1, 5) ∷ (2, 6) ∷ (1, 4) ∷ []) ≡ (1, 5) ∷ (1, 4) ∷ (2, 7) ∷ (2, 6) ∷ []
stable = refl

-- prefixes go by address, and only then by length
pub address_before_length : prefix_cmp (prefix 10 0 0 0 30) (prefix 10 0 0 4 8) ≡ Less
address_before_length = refl

pub shorter_before_longer : prefix_cmp (prefix 10 0 0 0 8) (prefix 10 0 0 0 9) ≡ Less
shorter_before_longer = refl

abbrev pub row : Cidr → ℕ → BaseFrom → BaseRow
row p distance from = record { prefix = p; distance = distance; from = from }

-- of one prefix connected rows come before static ones
pub connected_before_static : row_cmp (row (prefix 10 0 0 0 8) 0 (Connected (record { 0 = 9 }))) (row (prefix 10 0 0 0 8) 0 (Static 1 (record { 0 = 0 }))) ≡ Less
connected_before_static = refl

-- ---- what a prefix covers

pub last_covered : covers (prefix 10 0 12 0 30) (address 10 0 12 3) ≡ true
last_covered = refl

pub next_not_covered : covers (prefix 10 0 12 0 30) (address 10 0 12 4) ≡ false
next_not_covered = refl

-- ---- one router: an interface that is shut, one that is up, one without an address, and a loopback

abbrev pub interfaces : List Interface
interfaces =
    record (interface (codes "Ethernet0") (address 10 0 12 2) (prefix 10 0 12 0 30)) { shut = true } ∷ interface (codes "Ethernet1") (address 10 0 12 1) (prefix 10 0 12 0 30)
    ∷ record (interface (codes "Ethernet2") 0 (prefix 0 0 0 0 32)) { address = None } ∷ interface (codes "Loopback0") (address 192 168 0 1) (prefix 192 168 0 1 32) ∷ []

abbrev pub discard_at : Cidr → ℕ → StaticRoute
discard_at p distance = record { prefix = p; via = Null; distance = distance; element = 0 }

abbrev pub through : List ℕ → Cidr → ℕ → StaticRoute
through name p hop = record { prefix = p; via = Through (refers name) (record { 0 = hop }); distance = 1; element = 0 }

abbrev pub edge : List StaticRoute → ConfigView
edge statics = router interfaces statics None [] []

-- the interface that is up and the loopback are connected; the address of an interface that is shut isn't the router's own
pub usable : base_table (edge (route_to (prefix 10 2 0 0 24) (address 10 0 12 2) ∷ []))
    ≡ row (prefix 10 0 12 0 30) 0 (Connected (record { 0 = 1 })) ∷ row (prefix 10 2 0 0 24) 1 (Static 0 (record { 0 = 1 }))
    ∷ row (prefix 192 168 0 1 32) 0 (Connected (record { 0 = 3 })) ∷ []
unfolding base_table
usable = refl

-- the table where no static route can be used
abbrev pub connected_alone : List BaseRow
connected_alone = row (prefix 10 0 12 0 30) 0 (Connected (record { 0 = 1 })) ∷ row (prefix 192 168 0 1 32) 0 (Connected (record { 0 = 3 })) ∷ []

-- a next hop of the router's own, one that no interface covers, and one that the named interface doesn't cover: none can be used
pub own_hop : base_table (edge (route_to (prefix 10 2 0 0 24) (address 10 0 12 1) ∷ [])) ≡ connected_alone
unfolding base_table
own_hop = refl

pub far_hop : base_table (edge (route_to (prefix 10 2 0 0 24) (address 10 0 12 5) ∷ [])) ≡ connected_alone
unfolding base_table
far_hop = refl

pub named_elsewhere : base_table (edge (through (codes "Loopback0") (prefix 10 2 0 0 24) (address 10 0 12 2) ∷ [])) ≡ connected_alone
unfolding base_table
named_elsewhere = refl

pub named_own_hop : base_table (edge (through (codes "Ethernet1") (prefix 10 2 0 0 24) (address 10 0 12 1) ∷ [])) ≡ connected_alone
unfolding base_table
named_own_hop = refl

pub named_toward : base_table (edge (through (codes "Ethernet1") (prefix 10 2 0 0 24) (address 10 0 12 2) ∷ []))
    ≡ row (prefix 10 0 12 0 30) 0 (Connected (record { 0 = 1 })) ∷ row (prefix 10 2 0 0 24) 1 (Static 0 (record { 0 = 1 }))
    ∷ row (prefix 192 168 0 1 32) 0 (Connected (record { 0 = 3 })) ∷ []
unfolding base_table
named_toward = refl

-- distance 255 is never used, also not to nothing; 254 is
pub unused : base_table (edge (discard_at (prefix 10 2 0 0 24) 255 ∷ [])) ≡ connected_alone
unfolding base_table
unused = refl

-- of one prefix the least distance alone, also before a connected row; of equal ones all, by their places
pub nearest : base_table (edge (discard_at (prefix 10 2 0 0 24) 5 ∷ discard_at (prefix 10 2 0 0 24) 4 ∷ record (route_to (prefix 10 2 0 0 24) (address 10 0 12 2)) { distance = 4 }
    ∷ discard_at (prefix 10 0 12 0 30) 1 ∷ discard_at (prefix 10 2 0 0 25) 254 ∷ []))
    ≡ row (prefix 10 0 12 0 30) 0 (Connected (record { 0 = 1 })) ∷ row (prefix 10 2 0 0 24) 4 (Discard 1) ∷ row (prefix 10 2 0 0 24) 4 (Static 2 (record { 0 = 1 }))
    ∷ row (prefix 10 2 0 0 25) 254 (Discard 4) ∷ row (prefix 192 168 0 1 32) 0 (Connected (record { 0 = 3 })) ∷ []
unfolding base_table
nearest = refl

-- each by its place: one that can be used, one that can't be, and none
abbrev pub two_statics : List ConfigView
two_statics = edge [] ∷ edge (route_to (prefix 10 2 0 0 24) (address 10 0 12 1) ∷ discard_at (prefix 10 2 0 0 25) 9 ∷ []) ∷ []

pub by_place : static_at two_statics 1 1 ∷ static_at two_statics 1 0 ∷ static_at two_statics 1 2 ∷ static_at two_statics 0 1 ∷ []
    ≡ Some (row (prefix 10 2 0 0 25) 9 (Discard 1)) ∷ None ∷ None ∷ None ∷ []
by_place = refl

-- ---- the longest prefix

abbrev pub nested : List Cidr
nested = prefix 10 0 0 0 8 ∷ prefix 10 1 0 0 16 ∷ prefix 10 1 0 0 16 ∷ prefix 10 1 128 0 17 ∷ []

pub longest_all : longest nested (address 10 1 0 1) ≡ 1 ∷ 2 ∷ []
unfolding longest
longest_all = refl

pub longest_outer : longest nested (address 10 9 0 1) ≡ 0 ∷ []
unfolding longest
longest_outer = refl

pub longest_none : longest nested (address 11 0 0 1) ≡ []
unfolding longest
longest_none = refl

-- ---- two routers, with one link of equal prefixes and one of different ones

abbrev pub linked : List ConfigView
linked =
    router (interface [] (address 10 0 12 1) (prefix 10 0 12 0 30) ∷ interface [] (address 10 0 14 1) (prefix 10 0 14 0 29) ∷ [])
    (discard_at (prefix 10 2 0 0 24) 1 ∷ route_to (prefix 10 2 0 0 24) (address 10 0 12 2) ∷ route_to (prefix 10 0 0 0 8) (address 10 0 12 2) ∷ discard_at (prefix 10 3 0 0 24) 1 ∷ []) None [] []
    ∷ router (interface [] (address 10 0 14 2) (prefix 10 0 14 0 30) ∷ interface [] (address 10 0 12 2) (prefix 10 0 12 0 30) ∷ []) [] None [] []
    ∷ []

-- rows of the first: 10.0.0.0/8, both links, then two of 10.2.0.0/24 and one of 10.3.0.0/24
pub linked_rows : map (λ r. r.from) (base_table (router (interface [] (address 10 0 12 1) (prefix 10 0 12 0 30) ∷ []) (route_to (prefix 10 0 0 0 8) (address 10 0 12 2) ∷ []) None [] []))
    ≡ Static 0 (record { 0 = 0 }) ∷ Connected (record { 0 = 0 }) ∷ []
unfolding base_table
linked_rows = refl

-- what discards isn't a hit, and hides what is shorter
pub without_discards : hits (base_tables linked) 0 (address 10 2 0 1) ≡ 4 ∷ []
unfolding base_table longest
without_discards = refl

pub only_discards : hits (base_tables linked) 0 (address 10 3 0 1) ≡ []
unfolding base_table longest
only_discards = refl

-- a static row sends to its next hop, a connected one to the address itself
pub exit_static : exit_of linked (base_tables linked) 0 (address 10 2 0 1) 4 ≡ Some (record { iface = 0; addr = address 10 0 12 2 })
unfolding base_table
exit_static = refl

pub exit_connected : exit_of linked (base_tables linked) 0 (address 10 0 14 2) 2 ≡ Some (record { iface = 1; addr = address 10 0 14 2 })
unfolding base_table
exit_connected = refl

pub exit_discard : exit_of linked (base_tables linked) 0 (address 10 2 0 1) 3 ≡ None
unfolding base_table
exit_discard = refl

-- to the owner, where the prefixes are equal, and never to the router itself
pub leads_static : leads_to linked (base_tables linked) 0 (address 10 2 0 1) 4 ≡ Some (record { router = 1; place = 1 })
unfolding base_table
leads_static = refl

pub leads_unlinked : leads_to linked (base_tables linked) 0 (address 10 0 14 2) 2 ≡ None
unfolding base_table
leads_unlinked = refl

pub leads_home : leads_to linked (base_tables linked) 0 (address 10 0 12 1) 1 ≡ None
unfolding base_table
leads_home = refl

pub own_interface : own_place linked 1 (address 10 0 12 2) ≡ Some 1
own_interface = refl

-- ---- three routers: two static routes of the first, one to a router that leads on and one to a router that doesn't

abbrev pub branching : List ConfigView
branching =
    router (interface [] (address 10 0 12 1) (prefix 10 0 12 0 30) ∷ interface [] (address 10 0 13 1) (prefix 10 0 13 0 30) ∷ [])
    (route_to (prefix 10 2 0 0 24) (address 10 0 13 2) ∷ route_to (prefix 10 2 0 0 24) (address 10 0 12 2) ∷ []) None [] []
    ∷ router (interface [] (address 10 0 12 2) (prefix 10 0 12 0 30) ∷ interface [] (address 10 2 0 1) (prefix 10 2 0 0 24) ∷ []) [] None [] []
    ∷ router (interface [] (address 10 0 13 2) (prefix 10 0 13 0 30) ∷ []) [] None [] []
    ∷ []

-- some hit is enough
pub reaches_by_one : reaches branching (base_tables branching) 1 0 (address 10 2 0 1) ≡ true
unfolding base_table longest reaches
reaches_by_one = refl

pub reaches_itself : reaches branching (base_tables branching) 0 0 (address 10 0 12 1) ≡ true
unfolding base_table longest reaches
reaches_itself = refl

pub reaches_no_host : reaches branching (base_tables branching) 1 0 (address 10 2 0 9) ≡ false
unfolding base_table longest reaches
reaches_no_host = refl
