-- The tables of a network, from which look-ups are served.
use Rattle.std.specs.Prelude.{◌≡◌, ℕ, ◌+◌, ◌<◌, ◌≤◌, ◌*◌, List, [], ◌∷◌, ◌++◌, length, map, slice_get, slice_index_or, position, nat_eq, Option, Some, None, option_and_then, if◌then◌else◌}
use Rattle.std.specs.BTreeMap.{BTreeMap, get_by}
use Rattle.std.specs.Cmp.Lexicographic.{slice_cmp}
use Rattle.std.specs.Global.{Vec}
use Rattle.std.specs.Ordering.{nat_cmp}
use Rattle.std.specs.List.{range_with_len, list_any, position_from}
use Rattle.std.specs.Option.{option_map}
use Rattle.nc_types.specs.declared.addr.Addr.{Addr}
use Rattle.nc_types.specs.declared.TheConstants.{ROUTER_LIMIT, LINE_LIMIT}
use Rattle.nc_types.specs.declared.config.Interface.{Interface}
use Rattle.nc_types.specs.declared.config.RouterId.{RouterId}
use Rattle.nc_types.specs.declared.network.addresses.IfacePlace.{IfacePlace}
use Rattle.nc_types.specs.declared.network.elements.ElementPlace.{ElementPlace}
use Rattle.nc_types.specs.declared.network.tables.Tables.{Tables}
use Rattle.nc_types.specs.Config.{ElementView, ConfigView}
use Rattle.nc_types.specs.Joining.{IsValid}
use Rattle.nc_types.specs.Network.{PlaceIn, ElementIn, has_address, owner_of, router_named, element_count}

-- ---- elements

-- the places of so many elements of a router
abbrev pub places_in : ℕ → ℕ → List ElementPlace
places_in router count = map (λ place. record { router = record { 0 = router }; place = place }) (range_with_len 0 count)

-- the places of all elements, the first router having this number
abbrev pub places_from : ℕ → List ConfigView → List ElementPlace
places_from router [] = []
places_from router (c ∷ cs) = places_in router (length c.elements) ++ places_from (router + 1) cs

-- the element at a place
abbrev pub element_in : List ConfigView → ElementPlace → Option ElementIn
element_in routers at =
    option_and_then (λ c. option_map (λ e. record { router = at.router.0; element = e }) (slice_get c.elements at.place)) (slice_get routers at.router.0)

-- the number of the first element of each router, the first of them having this number
abbrev pub offsets_from : ℕ → List ConfigView → List ℕ
offsets_from first [] = []
offsets_from first (c ∷ cs) = first ∷ offsets_from (first + length c.elements) cs

-- ---- lines

-- the place of the element that has a line
abbrev pub owner_in : List ElementView → ℕ → Option ℕ
owner_in elements line = position (λ e. list_any (nat_eq line) e.lines) elements

-- the owner of a line after an element claims its lines, those that have an owner apart
abbrev pub claimed : ℕ → List ℕ → ℕ → Option (Option ℕ) → Option ℕ
claimed place lines line (Some (Some owner)) = Some owner
claimed place lines line owner = if list_any (nat_eq line) lines then Some place else None

-- the owner of each line of a file, and of a line 0
pub record AreOwners (c : ConfigView) (owners : List (Option ℕ)) : Type 0 where
  pub count : length owners ≡ c.line_count + 1
  pub each : (line : ℕ) → line < c.line_count + 1 → slice_get owners line ≡ Some (owner_in c.elements line)

-- the owners of all lines of these routers, of which so many are done
pub record AreAllOwners (routers : List ConfigView) (done : ℕ) (owners : List (Vec (Option ℕ))) : Type 0 where
  pub count : length owners ≡ done
  pub each : (router : ℕ) (c : ConfigView) (o : Vec (Option ℕ)) → router < done → AreOwners (slice_index_or routers router c) (slice_index_or owners router o).items

-- ---- names

-- the router that a table of names has for a name
abbrev pub named_by : BTreeMap (Vec ℕ) RouterId → List ℕ → Option RouterId
named_by names name = get_by (λ k. slice_cmp nat_cmp name k.items) names

-- ---- addresses

-- the interface that a table of addresses has for an address
abbrev pub owner_by : BTreeMap Addr IfacePlace → ℕ → Option IfacePlace
owner_by owners addr = get_by (λ a. nat_cmp addr a.0) owners

-- where an interface is
abbrev pub place_in : IfacePlace → PlaceIn
place_in i = record { router = i.router.0; place = i.iface.0 }

-- the first of these interfaces of a router that is up and has an address, the first of them having this number
abbrev pub iface_from : ℕ → ℕ → List Interface → ℕ → Option IfacePlace
iface_from router place interfaces addr =
    option_map (λ k. record { router = record { 0 = router }; iface = record { 0 = k } }) (position_from (has_address addr) place interfaces)

-- ---- all tables

-- the tables of a network of these routers
pub record AreTables (routers : List ConfigView) (tables : Tables) : Type 0 where
  pub names : (name : List ℕ) → option_map (λ r. r.0) (named_by tables.names name) ≡ router_named routers name
  pub places : tables.places.items ≡ places_from 0 routers
  pub offsets : tables.offsets.items ≡ offsets_from 0 routers
  pub owners : AreAllOwners routers (length routers) tables.owners.items
  pub addresses : (addr : ℕ) → option_map place_in (owner_by tables.addresses addr) ≡ owner_of routers addr

-- a network of so few valid routers, of files of so few lines, with its tables
pub record IsNetwork (routers : List ConfigView) (tables : Tables) : Type 0 where
  pub valid : IsValid routers
  pub count : length routers ≤ ROUTER_LIMIT
  pub few : element_count routers ≤ ROUTER_LIMIT * LINE_LIMIT
  pub served : AreTables routers tables
