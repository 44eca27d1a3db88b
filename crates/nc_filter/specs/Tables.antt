-- The tables of a network's access lists, and what is kept of a packet.
use Rattle.std.specs.Prelude.{◌≡◌, ℕ, ◌&&◌, true, false, nat_eq, List, length, Option, Some, position, slice_get}
use Rattle.std.specs.HashMap.{get_by}
use Rattle.std.specs.Option.{ForSome}
use Rattle.nc_types.specs.Config.{ConfigView}
use Rattle.nc_tables.specs.Filters.{deciding, is_of}
use Rattle.nc_filter.specs.Gates.{AreGates}
use Rattle.nc_filter.specs.Spots.{IsIndexed}
use Rattle.nc_filter.specs.declared.kept.Kept.{Kept}
use Rattle.nc_filter.specs.declared.tables.RouterFilters.{RouterFilters}
use Rattle.nc_filter.specs.declared.tables.FilterTables.{FilterTables}

-- the tables of a router
pub record IsOf (c : ConfigView) (filters : RouterFilters) : Type 0 where
  pub inward : AreGates c true filters.inward.items
  pub outward : AreGates c false filters.outward.items
  pub index : IsIndexed c.filters filters.index

-- what is kept of the list whose first entry has this place
abbrev pub kept_at : Kept → ℕ → ℕ → Option (Option ℕ)
kept_at kept router first = get_by (λ k. nat_eq router k.router.0 && nat_eq first k.first) kept.deciding

-- it is the entry that decides on a packet, of the list whose first entry has this place
abbrev pub IsDeciding : List ConfigView → ℕ → ℕ → ℕ → ℕ → Option ℕ → Type 0
IsDeciding routers from to router first entry =
    (c : ConfigView) (list : List ℕ) → slice_get routers router ≡ Some c → position (is_of list) c.filters ≡ Some first → entry ≡ deciding from to c list

abbrev pub AreRight : List ConfigView → ℕ → ℕ → (ℕ → ℕ → Option (Option ℕ)) → Type 0
AreRight routers from to kept = (router first : ℕ) → ForSome (kept router first) (IsDeciding routers from to router first)

abbrev pub AreKept : List ConfigView → Kept → Type 0
AreKept routers kept = AreRight routers kept.from.0 kept.to.0 (kept_at kept)

-- the tables of all routers, and what is kept
pub record AreFilters (routers : List ConfigView) (tables : FilterTables) : Type 0 where
  pub count : length tables.routers.items ≡ length routers
  pub each : (router : ℕ) (c : ConfigView) (filters : RouterFilters) → slice_get routers router ≡ Some c → slice_get tables.routers.items router ≡ Some filters → IsOf c filters
  pub kept : AreKept routers tables.kept
