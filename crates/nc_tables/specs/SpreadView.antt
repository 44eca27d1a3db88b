-- What tables hold of routes that stand for more prefixes than their own.
use Rattle.std.specs.Prelude.{◌≡◌, ℕ, ◌<◌, ◌≤◌, List, All, drop, length, map, take}
use Rattle.nc_types.specs.declared.TheConstants.{MULTIPATH_LIMIT}
use Rattle.nc_types.specs.Cidr.{Cidr, IsCidr}
use Rattle.nc_tables.specs.declared.bgp.Chosen.{Chosen}
use Rattle.nc_tables.specs.declared.router_rows.ChosenRow.{ChosenRow}
use Rattle.nc_tables.specs.declared.router_rows.Spread.{Spread}
use Rattle.nc_tables.specs.declared.rib_route.RibRoute.{RibRoute}
use Rattle.nc_tables.specs.declared.routes.Choices.{Choices}
use Rattle.nc_tables.specs.LocRibs.{Ascend}
use Rattle.nc_tables.specs.Rounds.{BgpRowView, bgp_row_view, AreBgpRows}
use Rattle.nc_tables.specs.Spread.{with_prefix, choices_of, spread_rows}

-- the candidate, of the route's prefix
abbrev pub route_view : RibRoute → Chosen
route_view r = with_prefix r.prefix.now r.entry.now

-- the candidates, of the row's prefix
abbrev pub row_view : ChosenRow → BgpRowView
row_view r = record { prefix = r.prefix.now; chosen = map (with_prefix r.prefix.now) r.held.now }

-- what is chosen of each of some prefixes of a router, and the rows that come of it
abbrev pub choices_in : Spread → List (List Chosen)
choices_in s = choices_of (map bgp_row_view s.own.now) s.standing.now s.prefixes.now s.places.now

abbrev pub rows_in : Spread → List BgpRowView
rows_in s = spread_rows (map bgp_row_view s.own.now) s.standing.now s.prefixes.now s.places.now

-- of so many of the first prefixes, and of those behind them
abbrev pub rows_upto : Spread → ℕ → List BgpRowView
rows_upto s count = spread_rows (map bgp_row_view s.own.now) s.standing.now (take count s.prefixes.now) (take count s.places.now)

abbrev pub rows_behind : Spread → ℕ → List BgpRowView
rows_behind s count = spread_rows (map bgp_row_view s.own.now) s.standing.now (drop count s.prefixes.now) (drop count s.places.now)

-- prefixes in order, each with the place of the one that stands for it
pub record ArePlaced (prefixes : List Cidr) (places : List ℕ) : Type 0 where
  pub ordered : Ascend prefixes
  pub valid : All (λ p. IsCidr p.base p.len) prefixes
  pub count : length places ≡ length prefixes

-- the rows of a router's own, and what it chooses of those that stand at these places
pub record AreHeld (rows : List BgpRowView) (standing : List (List Chosen)) (places : List ℕ) : Type 0 where
  pub own : AreBgpRows rows
  pub few : All (λ cs. length cs ≤ MULTIPATH_LIMIT) standing
  pub within : All (λ place. place < length standing) places

abbrev pub IsSpread : Spread → Type 0
IsSpread s = ArePlaced s.prefixes.now s.places.now × AreHeld (map bgp_row_view s.own.now) s.standing.now s.places.now

-- the rows of a router that chooses these, and what is known of them
abbrev pub rows_by_places : List Cidr → List ℕ → Choices → List BgpRowView
rows_by_places prefixes places c = spread_rows (map bgp_row_view c.own.items) c.standing.items prefixes places

abbrev pub AreKept : List ℕ → Choices → Type 0
AreKept places c = AreHeld (map bgp_row_view c.own.items) c.standing.items places
