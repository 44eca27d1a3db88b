-- Prefixes that spread alike: what routers choose of one of them tells what they choose of the other.
use Rattle.std.specs.Prelude.{◌≡◌, ◌⊎◌, ◌==◌, ℕ, ◌<◌, ◌≤◌, Bool, false, ◌&&◌, List, [], ◌∷◌, Option, Some, None, All, Contains, length, map, position, slice_get, if◌then◌else◌}
use Rattle.std.specs.List.{list_any}
use Rattle.std.specs.Option.{option_and_then, option_map_or}
use Rattle.nc_types.specs.Cidr.{Cidr, same_prefix}
use Rattle.nc_types.specs.Config.{ConfigView, ProcessView}
use Rattle.nc_tables.specs.declared.base.BaseRow.{BaseRow}
use Rattle.nc_tables.specs.declared.bgp.Chosen.{Chosen}
use Rattle.nc_tables.specs.declared.bgp.BgpFrom.{BgpFrom}
use Rattle.nc_tables.specs.declared.bgp.BgpFrom.TheVariants.{Origin, Aggregate, Entry}
use Rattle.nc_tables.specs.LocRibs.{Ascend}
use Rattle.nc_tables.specs.Reach.{rows_of}
use Rattle.nc_tables.specs.Rounds.{BgpRowView, chosen_at, prefixes}
use Rattle.nc_tables.specs.Sessions.{process_of}
use Rattle.nc_tables.specs.Spread.{chosen_or, with_prefix}
use Rattle.nc_types.specs.declared.TheConstants.{MULTIPATH_LIMIT}
use Rattle.nc_types.specs.declared.config.NetworkStatement.{NetworkStatement}
use Rattle.nc_types.specs.declared.config.RouterId.{RouterId}
use Rattle.nc_round.specs.Keys.{Key}
use Rattle.nc_round.specs.declared.likeness.Draft.{Draft}
use Rattle.nc_round.specs.declared.likeness.Likeness.{Likeness}
use Rattle.nc_round.specs.declared.owners.Owner.{Owner}
use Rattle.nc_round.specs.declared.owners.Owner.TheVariants.{None as NoOwner, One, Several}

-- a process that tells no prefix from another: it has no aggregate, and applies no map to a neighbor
pub record IsPlain (p : ProcessView) : Type 0 where
  pub aggregates : p.aggregates ≡ []
  pub maps : All (λ n. (n.map_in ≡ None) × (n.map_out ≡ None)) p.neighbors

abbrev pub ArePlain : List ConfigView → Type 0
ArePlain routers = (router : ℕ) (p : ProcessView) → process_of routers router ≡ Some p → IsPlain p

-- a router begins a prefix itself: it has a network of it, and a row in its base table
abbrev pub begins : List ConfigView → List (List BaseRow) → ℕ → Cidr → Bool
begins routers tables router prefix =
    option_map_or (λ p. list_any (λ n. same_prefix n.prefix prefix) p.networks) (process_of routers router) false
    && list_any (λ row. same_prefix row.prefix prefix) (rows_of tables router)

-- each router begins both of two prefixes, or neither
abbrev pub AreAlike : List ConfigView → List (List BaseRow) → Cidr → Cidr → Type 0
AreAlike routers tables p q = (router : ℕ) → begins routers tables router p ≡ begins routers tables router q

-- the place of a router's network of a prefix, if it has one
abbrev pub network_at : List ConfigView → ℕ → Cidr → Option ℕ
network_at routers router prefix = option_and_then (λ p. position (λ n. same_prefix n.prefix prefix) p.networks) (process_of routers router)

-- where a candidate of another prefix comes from, of which the router's network stands at this place
abbrev pub moved_from : Option ℕ → BgpFrom → BgpFrom
moved_from (Some place) (Origin own) = Origin place
moved_from None (Origin own) = Origin own
moved_from place (Aggregate own) = Aggregate own
moved_from place (Entry own) = Entry own

-- the network statements of a router
abbrev pub networks_at : List ConfigView → ℕ → List NetworkStatement
networks_at routers router = option_map_or (λ p. p.networks) (process_of routers router) []

-- the same candidate of another prefix
abbrev pub moved : Cidr → Option ℕ → Chosen → Chosen
moved prefix place x = record x { route = record x.route { prefix = prefix }; from = moved_from place x.from }

-- a router begins a prefix, and no other does
abbrev pub BeginsAlone : List ConfigView → List (List BaseRow) → Cidr → ℕ → Type 0
BeginsAlone routers tables prefix owner = (router : ℕ) → begins routers tables router prefix ≡ (router == owner)

-- at a place among all prefixes stands this one, for which that one stands
pub record IsStandingFor (l : Likeness) (q p : Cidr) : Type 0 where
  pub number : ℕ
  pub place : ℕ
  pub here : slice_get l.all.items number ≡ Some q
  pub known : slice_get l.places.items number ≡ Some place
  pub there : slice_get l.standing.items place ≡ Some p

-- of all prefixes that any router begins each has one that stands for it: itself, or where no router tells prefixes apart one that is
-- like it
pub record IsLikeness (routers : List ConfigView) (tables : List (List BaseRow)) (l : Likeness) : Type 0 where
  pub all : l.all.items ≡ prefixes routers
  pub standing : Ascend l.standing.items
  pub count : length l.places.items ≡ length l.all.items
  pub within : All (λ place. place < length l.standing.items) l.places.items
  pub like : (l.standing.items ≡ l.all.items) ⊎ (ArePlain routers × ((q p : Cidr) → IsStandingFor l q p → AreAlike routers tables p q))

-- made of a prefix is what a router chooses of the one that stands for it, moved to this prefix
pub record IsMade (routers : List ConfigView) (l : Likeness) (table : List (List BgpRowView)) (router : ℕ) (q : Cidr) (made : List Chosen) : Type 0 where
  pub few : length made ≤ MULTIPATH_LIMIT
  pub own : All (λ x. x.route.prefix ≡ q) made
  pub moved : (p : Cidr) → IsStandingFor l q p → made ≡ map (moved q (network_at routers router q)) (chosen_at table router p)

abbrev pub AreMade : List ConfigView → Likeness → List (List BgpRowView) → ℕ → List Cidr → List (List Chosen) → Type 0
AreMade routers l table router qs choices = (k : ℕ) (q : Cidr) (made : List Chosen) → slice_get qs k ≡ Some q → slice_get choices k ≡ Some made → IsMade routers l table router q made

-- with rows of its own a router has of each prefix what it chooses of the one that stands for it, moved to this prefix
abbrev pub AreOwnRows : List ConfigView → Likeness → List (List BgpRowView) → ℕ → List BgpRowView → Type 0
AreOwnRows routers l table router own =
    (q p : Cidr) → IsStandingFor l q p → map (with_prefix q) (chosen_or own q (chosen_at table router p)) ≡ map (moved q (network_at routers router q)) (chosen_at table router p)

-- a table has of each prefix what another one has of that which stands for it, moved to this prefix, and nothing of others
pub record IsExpansion (routers : List ConfigView) (l : Likeness) (table full : List (List BgpRowView)) : Type 0 where
  pub count : length full ≡ length table
  pub moved : (router : ℕ) (q p : Cidr) → IsStandingFor l q p → chosen_at full router q ≡ map (moved q (network_at routers router q)) (chosen_at table router p)
  pub others : (router : ℕ) (q : Cidr) → ¬ Contains l.all.items q → chosen_at full router q ≡ []

-- a table has of all prefixes what another one has of those that stand for them: the same, where each stands for itself
abbrev pub IsSpread : List ConfigView → Likeness → List (List BgpRowView) → List (List BgpRowView) → Type 0
IsSpread routers l table full = ((l.standing.items ≡ l.all.items) × (full ≡ table)) ⊎ ((¬ (l.standing.items ≡ l.all.items)) × IsExpansion routers l table full)

-- by which routers a prefix is begun, with one more
abbrev pub owner_with : Owner → RouterId → Owner
owner_with NoOwner router = One router
owner_with (One own) router = if own.0 == router.0 then One own else Several
owner_with Several router = Several

-- the rows of a prefix among some are those of its owner
abbrev pub IsOwnerIn : List Key → Cidr → Owner → Type 0
IsOwnerIn keys prefix NoOwner = (k : Key) → Contains keys k → k.1 ≡ prefix → ⊥
IsOwnerIn keys prefix (One router) = (k : Key) → Contains keys k → k.1 ≡ prefix → k.0 ≡ router
IsOwnerIn keys prefix Several = Unit {0}

abbrev pub AreOwners : List Key → List Cidr → List Owner → Type 0
AreOwners keys prefixes owners = (number : ℕ) (p : Cidr) (owner : Owner) → slice_get prefixes number ≡ Some p → slice_get owners number ≡ Some owner → IsOwnerIn keys p owner

-- what stands for some prefixes, which are in order, while they are gone through
pub record IsDraft (routers : List ConfigView) (tables : List (List BaseRow)) (seen : List Cidr) (d : Draft) : Type 0 where
  pub standing : Ascend d.standing.items
  pub from : All (Contains seen) d.standing.items
  pub count : length d.places.items ≡ length seen
  pub within : All (λ place. place < length d.standing.items) d.places.items
  pub like : (number place : ℕ) (q p : Cidr) → slice_get seen number ≡ Some q → slice_get d.places.items number ≡ Some place → slice_get d.standing.items place ≡ Some p → AreAlike routers tables p q
  pub firsts : (router place : ℕ) → slice_get d.firsts.items router ≡ Some (Some place) → place < length d.standing.items
  pub alone : (router place : ℕ) (p : Cidr) → slice_get d.firsts.items router ≡ Some (Some place) → slice_get d.standing.items place ≡ Some p → BeginsAlone routers tables p router
