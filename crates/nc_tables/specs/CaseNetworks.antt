-- A network: which interfaces are up, who owns an address, the numbers of elements, and what may be wrong with several configurations.
use Rattle.std.specs.Prelude.{◌≡◌, ℕ, true, List, [], ◌∷◌, map, Some, None, codes, refl}
use Rattle.std.specs.Option.{option_map}
use Rattle.nc_types.specs.Cidr.{Cidr}
use Rattle.nc_types.specs.Config.{ConfigView, ElementView}
use Rattle.nc_types.specs.Network.{up_of, up_at, owner_of, hop_of, router_named, element_count, element_at, owner_at}
use Rattle.nc_types.specs.Joining.{Clash, earliest, same_names, overlaps, same_addresses, undefined}
use Rattle.nc_types.specs.declared.config.Interface.{Interface}
use Rattle.nc_types.specs.declared.config.Kind.TheVariants.{Static}
use Rattle.nc_types.specs.declared.config.Via.TheVariants.{Null, Hop, Through}
use Rattle.nc_tables.specs.Cases.{address, prefix, interface, neighbor, process, router, refers}

-- ---- interfaces and owners

abbrev pub up : Interface
up = interface (codes "Ethernet0") (address 10 0 12 1) (prefix 10 0 12 0 30)

abbrev pub shut : Interface
shut = record up { shut = true }

abbrev pub bare : Interface
bare = record up { address = None }

pub ups : map (λ i. option_map (λ a. a.addr.0) (up_of i)) (up ∷ shut ∷ bare ∷ []) ≡ Some (address 10 0 12 1) ∷ None ∷ None ∷ []
ups = refl

-- the first two interfaces of the first router have the address but aren't up
abbrev pub owned : List ConfigView
owned = router (shut ∷ bare ∷ []) [] None [] [] ∷ router (bare ∷ shut ∷ up ∷ []) [] None [] [] ∷ []

pub owner : owner_of owned (address 10 0 12 1) ∷ owner_of owned (address 10 0 12 2) ∷ [] ≡ Some (record { router = 1; place = 2 }) ∷ None ∷ []
owner = refl

pub ups_at : map (option_map (λ a. a.addr.0)) (up_at owned 1 2 ∷ up_at owned 1 1 ∷ up_at owned 1 3 ∷ up_at owned 2 0 ∷ []) ≡ Some (address 10 0 12 1) ∷ None ∷ None ∷ None ∷ []
ups_at = refl

pub hops : map (option_map (λ hop. hop.0)) (hop_of Null ∷ hop_of (Hop (record { 0 = 5 })) ∷ hop_of (Through (refers []) (record { 0 = 6 })) ∷ []) ≡ None ∷ Some 5 ∷ Some 6 ∷ []
hops = refl

-- ---- elements

-- an element of these lines
abbrev pub element : List ℕ → ElementView
element lines = record { kind = Static; lines = lines }

abbrev pub elements : List ConfigView
elements =
    record (router [] [] None [] []) { name = codes "r1"; elements = element (2 ∷ 4 ∷ []) ∷ element (3 ∷ []) ∷ [] }
    ∷ record (router [] [] None [] []) { name = codes "r2"; elements = [] } ∷ record (router [] [] None [] []) { name = codes "r3"; elements = element (7 ∷ []) ∷ element (2 ∷ 9 ∷ []) ∷ [] } ∷ []

pub counted : element_count elements ≡ 4
counted = refl

-- the elements of a router are numbered behind those of all earlier ones
pub numbered : map (option_map {U = ℕ × List ℕ} (λ e. (e.router, e.element.lines))) (element_at elements 0 ∷ element_at elements 1 ∷ element_at elements 2 ∷ element_at elements 3 ∷ element_at elements 4 ∷ [])
    ≡ Some (0, 2 ∷ 4 ∷ []) ∷ Some (0, 3 ∷ []) ∷ Some (2, 7 ∷ []) ∷ Some (2, 2 ∷ 9 ∷ []) ∷ None ∷ []
numbered = refl

pub by_line : owner_at elements 0 4 ∷ owner_at elements 0 3 ∷ owner_at elements 0 5 ∷ owner_at elements 1 2 ∷ owner_at elements 2 2 ∷ owner_at elements 3 2 ∷ []
    ≡ Some 0 ∷ Some 1 ∷ None ∷ None ∷ Some 3 ∷ None ∷ []
by_line = refl

pub by_name : router_named elements (codes "r3") ∷ router_named elements (codes "r") ∷ [] ≡ Some 2 ∷ None ∷ []
by_name = refl

-- ---- what may be wrong

abbrev pub clash : ℕ → ℕ → ℕ → ℕ → Clash
clash first first_line second second_line = record { first = first; first_line = first_line; second = second; second_line = second_line }

abbrev pub named : List ℕ → ℕ → ConfigView
named name line = record (router [] [] None [] []) { name = name; name_line = line }

pub names : same_names (named (codes "a") 1 ∷ named (codes "b") 2 ∷ named (codes "a") 3 ∷ []) ≡ clash 0 1 2 3 ∷ []
names = refl

-- an interface whose address stands on a line
abbrev pub addressed : ℕ → ℕ → Cidr → Interface
addressed line addr p = record (interface [] addr p) { address_line = line }

abbrev pub with_interfaces : List Interface → ConfigView
with_interfaces is = router is [] None [] []

-- one prefix inside the other, whichever comes first; the lower line first; not where one is shut, or of two routers
pub overlapping : overlaps (with_interfaces (addressed 9 (address 10 1 0 1) (prefix 10 1 0 0 24) ∷ addressed 5 (address 10 1 1 1) (prefix 10 1 0 0 16)
    ∷ record (addressed 7 (address 10 1 2 1) (prefix 10 1 2 0 24)) { shut = true } ∷ addressed 3 (address 10 2 0 1) (prefix 10 2 0 0 24) ∷ addressed 11 (address 10 2 0 129) (prefix 10 2 0 128 25) ∷ [])
    ∷ with_interfaces (addressed 4 (address 10 2 0 2) (prefix 10 2 0 0 24) ∷ []) ∷ []) ≡ clash 0 5 0 9 ∷ clash 0 3 0 11 ∷ []
overlapping = refl

-- one address at two routers; not where it isn't up
pub addresses : same_addresses (with_interfaces (addressed 9 (address 10 1 0 1) (prefix 10 1 0 0 24) ∷ addressed 8 (address 10 2 0 1) (prefix 10 2 0 0 24) ∷ [])
    ∷ with_interfaces (addressed 3 (address 10 1 0 1) (prefix 10 0 0 0 8) ∷ record (addressed 4 (address 10 2 0 1) (prefix 10 2 0 0 24)) { shut = true } ∷ []) ∷ [])
    ≡ clash 0 9 1 3 ∷ []
addresses = refl

-- a reference of each kind that isn't defined, and one that is defined as something else
pub references : undefined (router (up ∷ []) (record { prefix = prefix 10 1 0 0 24; via = Through (record { name = codes "Null1"; line = 4 }) (record { 0 = 0 }); distance = 1; element = 0 }
    ∷ record { prefix = prefix 10 1 0 0 24; via = Through (record { name = codes "Ethernet0"; line = 5 }) (record { 0 = 0 }); distance = 1; element = 0 } ∷ [])
    (Some (process 65001 1 (record (neighbor 0 1 (Some (record { name = codes "X"; line = 6 })) (Some (record { name = codes "Ethernet0"; line = 7 }))) { map_out = Some (record { name = codes "Y"; line = 8 }) } ∷ []) [] []))
    (record { map_name = codes "M"; number = 10; permit = true; lists = record { name = codes "M"; line = 9 } ∷ []; community_lists = []; preference = None; metric = None; prepend = []; origin = None; communities = None; element = 0 } ∷ []) [] ∷ [])
    ≡ clash 0 4 0 0 ∷ clash 0 6 0 0 ∷ clash 0 7 0 0 ∷ clash 0 8 0 0 ∷ clash 0 9 0 0 ∷ []
references = refl

-- the first by first router, first line, second router and second line
pub told : earliest (clash 1 1 1 1 ∷ clash 0 5 0 0 ∷ clash 0 4 9 9 ∷ clash 0 4 8 9 ∷ clash 0 4 8 7 ∷ clash 0 4 8 8 ∷ clash 0 4 9 1 ∷ []) ≡ Some (clash 0 4 8 7)
told = refl

pub nothing_told : earliest [] ≡ None
nothing_told = refl
