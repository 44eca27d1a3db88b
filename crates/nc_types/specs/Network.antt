-- A network of routers: which interfaces are up, who owns an address, and which element has a line.
use Rattle.std.specs.Prelude.{ℕ, ◌+◌, ◌-◌, Bool, false, ◌==◌, nat_lt, nat_eq, List, [], ◌∷◌, length, position, slice_get, take, Option, Some, None, option_and_then, if◌then◌else◌}
use Rattle.std.specs.List.{list_any, sum_by}
use Rattle.std.specs.Option.{option_map, option_map_or}
use Rattle.std.specs.Str.{bytes_eq}
use Rattle.nc_types.specs.Config.{ElementView, ConfigView}
use Rattle.nc_types.specs.declared.config.IfaceAddr.{IfaceAddr}
use Rattle.nc_types.specs.declared.addr.Addr.{Addr}
use Rattle.nc_types.specs.declared.config.Interface.{Interface}
use Rattle.nc_types.specs.declared.config.Via.{Via}
use Rattle.nc_types.specs.declared.config.Via.TheVariants.{Null, Hop, Through}

-- ---- interfaces

-- the address of an interface that is up: it has one and isn't shut
abbrev pub up_of : Interface → Option IfaceAddr
up_of i = if i.shut then None else i.address

-- the address of the interface at a place of a router, if there is one and it is up
abbrev pub up_at : List ConfigView → ℕ → ℕ → Option IfaceAddr
up_at routers router iface = option_and_then (λ c. option_and_then up_of (slice_get c.interfaces iface)) (slice_get routers router)

-- an interface that is up and has this address
abbrev pub has_address : ℕ → Interface → Bool
has_address addr i = option_map_or (λ a. a.addr.0 == addr) (up_of i) false

-- a place of a router's: an interface, or an element
pub record PlaceIn : Type 0 where
  pub router : ℕ
  pub place : ℕ

-- the first of these routers, from this number on, that has an interface which is up and has the address, and that interface
abbrev pub owner_from : ℕ → List ConfigView → ℕ → Option PlaceIn
owner_from router [] addr = None
owner_from router (c ∷ cs) addr =
    option_map_or (λ place. Some (record { router = router; place = place })) (position (has_address addr) c.interfaces) (owner_from (router + 1) cs addr)

-- the owner of an address
abbrev pub owner_of : List ConfigView → ℕ → Option PlaceIn
owner_of routers addr = owner_from 0 routers addr

-- the next hop of a static route, unless it discards
abbrev pub hop_of : Via → Option Addr
hop_of Null = None
hop_of (Hop hop) = Some hop
hop_of (Through reference hop) = Some hop

-- ---- names

-- the router of a name
abbrev pub router_named : List ConfigView → List ℕ → Option ℕ
router_named routers name = position (λ c. bytes_eq name c.name) routers

-- ---- elements, which are numbered through all routers

-- how many elements there are
abbrev pub element_count : List ConfigView → ℕ
element_count routers = sum_by (λ c. length c.elements) routers

-- an element of a router
pub record ElementIn : Type 0 where
  pub router : ℕ
  pub element : ElementView

-- the element of a number, the first of these routers having this number and its first element the number 0
abbrev pub element_from : ℕ → List ConfigView → ℕ → Option ElementIn
element_from router [] number = None
element_from router (c ∷ cs) number =
    if nat_lt number (length c.elements) then option_map (λ e. record { router = router; element = e }) (slice_get c.elements number)
    else element_from (router + 1) cs (number - length c.elements)

abbrev pub element_at : List ConfigView → ℕ → Option ElementIn
element_at routers number = element_from 0 routers number

-- the element of a router that has a line
abbrev pub place_with_line : ConfigView → ℕ → Option ℕ
place_with_line c line = position (λ e. list_any (nat_eq line) e.lines) c.elements

-- the number of the element at a place of a router: its place, behind the elements of all earlier routers
abbrev pub number_at : List ConfigView → ℕ → ℕ → ℕ
number_at routers router place = element_count (take router routers) + place

-- the number of the element that has a line of a router
abbrev pub owner_at : List ConfigView → ℕ → ℕ → Option ℕ
owner_at routers router line = option_and_then (λ c. option_map (number_at routers router) (place_with_line c line)) (slice_get routers router)
