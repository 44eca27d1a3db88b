-- The neighbor statements of a router, their places by address, and the interface by which a packet leaves.
use Rattle.std.specs.Prelude.{◌≡◌, ℕ, List, [], Option, option_and_then, slice_get}
use Rattle.std.specs.BTreeMap.{BTreeMap, get_by}
use Rattle.std.specs.Option.{option_map, option_map_or}
use Rattle.std.specs.Ordering.{nat_cmp}
use Rattle.nc_types.specs.Config.{ConfigView}
use Rattle.nc_types.specs.declared.addr.Addr.{Addr}
use Rattle.nc_types.specs.declared.config.Neighbor.{Neighbor}
use Rattle.nc_tables.specs.declared.base.BaseRow.{BaseRow}
use Rattle.nc_tables.specs.Reach.{hits, exit_of}
use Rattle.nc_tables.specs.Sessions.{first_of, place_for}

-- the neighbor statements of a configuration, and of a router
abbrev pub neighbors_of : ConfigView → List Neighbor
neighbors_of c = option_map_or (λ p. p.neighbors) c.process []

abbrev pub statements_of : List ConfigView → ℕ → List Neighbor
statements_of routers router = option_map_or neighbors_of (slice_get routers router) []

-- the place that a table has for an address
abbrev pub place_by : BTreeMap Addr ℕ → ℕ → Option ℕ
place_by places addr = get_by (λ a. nat_cmp addr a.0) places

-- a table for each router has the places of its statements
abbrev pub ArePlaces : List ConfigView → List (BTreeMap Addr ℕ) → Type 0
ArePlaces routers tables =
    (router addr : ℕ) → option_and_then (λ places. place_by places addr) (slice_get tables router) ≡ place_for routers router addr

-- the interface of the first hit toward an address
abbrev pub hit_iface : List ConfigView → List (List BaseRow) → ℕ → ℕ → Option ℕ
hit_iface routers tables router addr =
    option_and_then (λ hit. option_map (λ exit. exit.iface) (exit_of routers tables router addr hit)) (first_of (hits tables router addr))
