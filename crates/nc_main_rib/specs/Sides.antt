-- What stands of one prefix of a router: base rows on one side, what BGP has on the other.
use Rattle.std.specs.Prelude.{◌≡◌, ℕ, zero, ◌+◌, ◌≤◌, Bool, true, false, ◌&&◌, nat_le, List, [], ◌∷◌, length, Option, Some, None, if◌then◌else◌}
use Rattle.std.specs.BTreeMap.{BTreeMap, get_by}
use Rattle.std.specs.List.{flat_map, AllWithin}
use Rattle.std.specs.Option.{option_map, option_map_or}
use Rattle.std.specs.Ordering.{is_le}
use Rattle.nc_types.specs.Cidr.{Cidr}
use Rattle.nc_types.specs.declared.config.AggregateStatement.{AggregateStatement}
use Rattle.nc_tables.specs.declared.TheConstants.{LOCAL_DISTANCE}
use Rattle.nc_tables.specs.declared.base.BaseRow.{BaseRow}
use Rattle.nc_tables.specs.declared.bgp.Chosen.{Chosen}
use Rattle.nc_tables.specs.declared.bgp.MainRow.{MainRow}
use Rattle.nc_tables.specs.declared.bgp.MainFrom.TheVariants.{Base, Bgp, Discard}
use Rattle.nc_tables.specs.declared.router_rows.ChosenRow.{ChosenRow}
use Rattle.nc_tables.specs.Base.{same_prefix, prefix_cmp}
use Rattle.nc_tables.specs.Main.{learnt_rows}
use Rattle.nc_tables.specs.Rounds.{BgpRowView, has_longer, made_from}
use Rattle.nc_tables.specs.Sessions.{first_of}
use Rattle.nc_tables.specs.SpreadView.{row_view}

-- ---- aggregates

module _ (rows : List BgpRowView) where
  -- the place of the first active aggregate of a prefix, the first aggregate having this place
  abbrev pub active_from : Cidr → ℕ → List AggregateStatement → Option ℕ
  active_from prefix place [] = None
  active_from prefix place (a ∷ later) = if same_prefix a.prefix prefix && has_longer rows a.prefix then Some place else active_from prefix (place + 1) later

-- the place that a table of places has for a prefix
abbrev pub place_by : BTreeMap Cidr ℕ → Cidr → Option ℕ
place_by places prefix = get_by (prefix_cmp prefix) places

-- ---- rows

-- the main row of a base row at a place, for a prefix
abbrev pub base_row : Cidr → ℕ → BaseRow → MainRow
base_row prefix place row = record { prefix = prefix; distance = row.distance; from = Base place }

-- those of base rows, the first of which has this place
abbrev pub base_rows : Cidr → ℕ → List BaseRow → List MainRow
base_rows prefix place rows = made_from (λ at row. Some (base_row prefix at row)) place rows

-- those of the base rows that have the prefix
abbrev pub base_in : Cidr → List BaseRow → List MainRow
base_in prefix rows = made_from (λ at row. if same_prefix row.prefix prefix then Some (base_row prefix at row) else None) 0 rows

-- so many base rows, the first of a table, have no later prefix
abbrev pub ArePassed : List BaseRow → ℕ → Cidr → Type 0
ArePassed rows count prefix = (count ≤ length rows) × AllWithin (λ row. is_le (prefix_cmp row.prefix prefix) ≡ true) rows zero count

-- the main row of the chosen candidate at a place
abbrev pub learnt_row : Cidr → ℕ → ℕ → MainRow
learnt_row prefix distance place = record { prefix = prefix; distance = distance; from = Bgp place }

-- what is chosen of a prefix, if it has a BGP row
abbrev pub chosen_of : Option ChosenRow → List Chosen
chosen_of o = option_map_or (λ row. (row_view row).chosen) o []

-- what was learnt of the prefixes of BGP rows, one after another
abbrev pub learnt_of : List BgpRowView → List MainRow
learnt_of rows = flat_map (λ row. learnt_rows row.prefix row.chosen) rows

-- the row of the aggregate that discards, if there is one, else those of what was learnt
abbrev pub bgp_rows : Cidr → Option ℕ → List Chosen → List MainRow
bgp_rows prefix (Some place) chosen = record { prefix = prefix; distance = LOCAL_DISTANCE; from = Discard place } ∷ []
bgp_rows prefix None chosen = learnt_rows prefix chosen

-- the distance of the first row
abbrev pub first_distance : List MainRow → Option ℕ
first_distance rows = option_map (λ row. row.distance) (first_of rows)

-- base rows of a distance stand where there are some and BGP has nothing of a lower one
abbrev pub stands : Option ℕ → Option ℕ → Bool
stands None bgp = false
stands (Some base) None = true
stands (Some base) (Some bgp) = nat_le base bgp
