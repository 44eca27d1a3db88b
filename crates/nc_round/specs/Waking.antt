-- Which rows may come from rows that changed, and which rows routers begin themselves.
use Rattle.std.specs.Prelude.{◌≡◌, ◌⊎◌, ◌<◌, ℕ, suc, true, false, not, ◌==◌, List, [], ◌∷◌, ◌++◌, map, filter, All, Contains, Some, None, slice_index_or, if◌then◌else◌}
use Rattle.std.specs.List.{filter_map, flat_map, list_any}
use Rattle.std.specs.Option.{option_map_or}
use Rattle.nc_types.specs.Cidr.{Cidr}
use Rattle.nc_types.specs.Config.{ConfigView}
use Rattle.nc_types.specs.declared.config.AggregateStatement.{AggregateStatement}
use Rattle.nc_tables.specs.declared.bgp.SessionRow.{SessionRow}
use Rattle.nc_tables.specs.Rounds.{BgpRowView, is_longer_in, prefixes_in}
use Rattle.nc_tables.specs.Sessions.{process_of}
use Rattle.nc_decision.specs.BestPath.{leaves_best_path}
use Rattle.nc_message.specs.declared.inputs.RoutingInputs.{RoutingInputs}
use Rattle.nc_round.specs.declared.changed.NumberedRow.{NumberedRow}
use Rattle.nc_round.specs.Keys.{Key, key, AreInOrder}
use Rattle.nc_round.specs.Rows.{row_key, AreRows}

-- the aggregates of a router
abbrev pub aggregates_of : List ConfigView → ℕ → List AggregateStatement
aggregates_of routers router = option_map_or (λ p. p.aggregates) (process_of routers router) []

-- the prefix of each aggregate of a router is among these
abbrev pub HaveAggregates : List ConfigView → List Cidr → Type 0
HaveAggregates routers prefixes = (router : ℕ) → All (λ a. Contains prefixes a.prefix) (aggregates_of routers router)

-- the row of a prefix at a router may come from a row that changed: one of the prefix at a peer of a session of the router, where what
-- the router learns of it now may count beside what stands
pub record IsAffectedByPeer (i : RoutingInputs) (table : List (List BgpRowView)) (changed : List Key) (router : ℕ) (prefix : Cidr) : Type 0 where
  pub session : SessionRow
  pub own : Contains (slice_index_or i.sessions.now router []) session
  pub row : Contains changed (key session.peer.0 prefix)
  pub counts : leaves_best_path i.network.now i.base.now i.sessions.now table router session.neighbor prefix ≡ false

-- or one of the router itself, inside its aggregate for the prefix
pub record IsAround (routers : List ConfigView) (changed : List Key) (router : ℕ) (prefix : Cidr) : Type 0 where
  pub aggregate : AggregateStatement
  pub inside : Cidr
  pub own : Contains (aggregates_of routers router) aggregate
  pub same : aggregate.prefix ≡ prefix
  pub longer : is_longer_in inside aggregate.prefix ≡ true
  pub row : Contains changed (key router inside)

abbrev pub IsWoken : RoutingInputs → List (List BgpRowView) → List Key → ℕ → Cidr → Type 0
IsWoken i table changed router prefix = IsAffectedByPeer i table changed router prefix ⊎ IsAround i.network.now changed router prefix

-- the prefixes of the rows of a router that changed
abbrev pub changed_at : List Key → ℕ → List Cidr
changed_at changed router = filter_map (λ k. if k.0.0 == router then Some k.1 else None) changed

-- those that changed at the peer of a session of a router of which what it learns now may count, given the prefixes that changed at each
-- router
abbrev pub affected_over : RoutingInputs → List (List BgpRowView) → List (List Cidr) → ℕ → SessionRow → List Cidr
affected_over i table lists router s = filter (λ p. not (leaves_best_path i.network.now i.base.now i.sessions.now table router s.neighbor p)) (slice_index_or lists s.peer.0 [])

-- the prefixes of a router's rows that are woken
abbrev pub woken_at : RoutingInputs → List (List BgpRowView) → List (List Cidr) → ℕ → List Cidr
woken_at i table lists router =
    flat_map (affected_over i table lists router) (slice_index_or i.sessions.now router [])
    ++ map (λ a. a.prefix) (filter (λ a. list_any (λ q. is_longer_in q a.prefix) (slice_index_or lists router [])) (aggregates_of i.network.now router))

-- rows of routers below a number, in order, each under the number that its prefix has among these
pub record AreWoken (number : ℕ) (prefixes : List Cidr) (rows : List NumberedRow) : Type 0 where
  pub ordered : AreInOrder (map row_key rows)
  pub below : All (λ k. k.0.0 < number) (map row_key rows)
  pub numbers : AreRows prefixes rows

-- the rows of the prefixes that routers begin themselves, the first of which has this number
abbrev pub begun_from : ℕ → List ConfigView → List Key
begun_from number [] = []
begun_from number (c ∷ cs) = map (λ p. (record { 0 = number }, p)) (prefixes_in c) ++ begun_from (suc number) cs
