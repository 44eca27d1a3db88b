-- What routers choose, prefix by prefix: each has a list of what it chooses of each prefix that any router begins, in order of prefix.
use Rattle.std.specs.Prelude.{◌≡◌, ℕ, ◌<◌, ◌≤◌, List, [], ◌∷◌, length, Some, All, AllPairs, slice_get}
use Rattle.std.specs.declared.cmp.Ordering.TheVariants.{Less}
use Rattle.nc_types.specs.declared.TheConstants.{MULTIPATH_LIMIT}
use Rattle.nc_types.specs.Cidr.{Cidr}
use Rattle.nc_tables.specs.declared.bgp.Chosen.{Chosen}
use Rattle.nc_tables.specs.declared.ribs.Numbered.{Numbered}
use Rattle.nc_tables.specs.Base.{prefix_cmp}
use Rattle.nc_tables.specs.Rounds.{BgpRowView}

-- the prefixes, and the rows of each router
pub record LocRibsView : Type 0 where
  pub prefixes : List Cidr
  pub rows : List (List BgpRowView)

-- strictly in order
abbrev pub Ascend : List Cidr → Type 0
Ascend prefixes = AllPairs (λ p q. prefix_cmp p q ≡ Less) prefixes

-- rows behind that of a prefix, which has one exactly where something is chosen
abbrev pub row_before : Cidr → List Chosen → List BgpRowView → List BgpRowView
row_before p [] rows = rows
row_before p (x ∷ xs) rows = record { prefix = p; chosen = x ∷ xs } ∷ rows

-- the rows of a router that chooses this of each prefix: one of each of which it chooses something
abbrev pub rows_by : List Cidr → List (List Chosen) → List BgpRowView
rows_by [] choices = []
rows_by (p ∷ ps) [] = []
rows_by (p ∷ ps) (cs ∷ choices) = row_before p cs (rows_by ps choices)

-- what a router chooses of each prefix: no more than are used at once, each a route of the prefix
pub record AreChoices (prefixes : List Cidr) (choices : List (List Chosen)) : Type 0 where
  pub count : length choices ≡ length prefixes
  pub few : All (λ cs. length cs ≤ MULTIPATH_LIMIT) choices
  pub own : (k : ℕ) (p : Cidr) (cs : List Chosen) → slice_get prefixes k ≡ Some p → slice_get choices k ≡ Some cs → All (λ x. x.route.prefix ≡ p) cs

-- the rows of a router that come of it: strictly in order of prefix, each with a candidate
pub record AreChosen (rows : List BgpRowView) : Type 0 where
  pub ordered : AllPairs (λ a b. prefix_cmp a.prefix b.prefix ≡ Less) rows
  pub some : All (λ row. 0 < length row.chosen) rows

-- a prefix stands among others under its number
abbrev pub IsNumbered : List Cidr → Numbered → Type 0
IsNumbered prefixes n = slice_get prefixes n.number ≡ Some n.prefix
