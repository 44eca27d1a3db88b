-- Rows that a round makes anew.
use Rattle.std.specs.Prelude.{◌≡◌, ℕ, ◌<◌, ◌≤◌, List, [], Option, Some, None, All, Contains, length, map, if◌then◌else◌}
use Rattle.std.specs.List.{filter_map}
use Rattle.nc_types.specs.declared.TheConstants.{MULTIPATH_LIMIT}
use Rattle.nc_types.specs.Cidr.{Cidr}
use Rattle.nc_tables.specs.declared.bgp.Chosen.{Chosen}
use Rattle.nc_tables.specs.LocRibs.{IsNumbered}
use Rattle.nc_tables.specs.Rounds.{BgpRowView, chosen_at, chosen_anew}
use Rattle.nc_tables.specs.Settling.{same_list, same_candidate}
use Rattle.nc_message.specs.declared.inputs.RoutingInputs.{RoutingInputs}
use Rattle.nc_round.specs.declared.changed.NumberedRow.{NumberedRow}
use Rattle.nc_round.specs.declared.loc_rib_change.LocRibChange.{LocRibChange}
use Rattle.nc_round.specs.Next.{next_of}
use Rattle.nc_round.specs.Keys.{Key, key, AreInOrder}
use Rattle.nc_round.specs.Rows.{row_key, AreRows}

-- what is chosen anew of a row
pub record RowChange : Type 0 where
  pub key : Key
  pub chosen : List Chosen

abbrev pub row_change : LocRibChange → RowChange
row_change n = record { key = (n.router, n.of.prefix); chosen = n.chosen }

-- the candidates are of the prefix, which has its number among these, and no more than are used at once; the router is one of so many
pub record IsLocRibChange (count : ℕ) (prefixes : List Cidr) (n : LocRibChange) : Type 0 where
  pub router : n.router.0 < count
  pub number : IsNumbered prefixes n.of
  pub own : All (λ x. x.route.prefix ≡ n.of.prefix) n.chosen
  pub few : length n.chosen ≤ MULTIPATH_LIMIT

-- what is chosen anew of a row, if it differs
abbrev pub change_at : RoutingInputs → List (List BgpRowView) → Key → Option RowChange
change_at i table k =
    let anew = chosen_anew i.network.now i.base.now i.sessions.now table k.0.0 k.1 in
    if same_list same_candidate anew (chosen_at table k.0.0 k.1) then None else Some (record { key = k; chosen = anew })

-- what is chosen anew of these rows, of each that differs, under the numbers of these prefixes
pub record AreChangesOf (i : RoutingInputs) (prefixes : List Cidr) (table : List (List BgpRowView)) (rows : List NumberedRow) (changes : List LocRibChange) : Type 0 where
  pub made : map row_change changes ≡ filter_map (change_at i table) (map row_key rows)
  pub each : All (IsLocRibChange (length i.network.now) prefixes) changes

-- nothing is chosen of other prefixes than these
abbrev pub IsKnown : List Cidr → List (List BgpRowView) → Type 0
IsKnown prefixes table = (router : ℕ) (p : Cidr) → ¬ Contains prefixes p → chosen_at table router p ≡ []

-- rows in order, such that a round over these prefixes changes no other
pub record AreEnough (i : RoutingInputs) (prefixes : List Cidr) (table : List (List BgpRowView)) (keys : List Key) : Type 0 where
  pub count : length table ≡ length i.network.now
  pub known : IsKnown prefixes table
  pub ordered : AreInOrder keys
  pub within : All (λ k. k.0.0 < length i.network.now) keys
  pub others : (router : ℕ) (p : Cidr) → ¬ Contains keys (key router p) → chosen_at table router p ≡ chosen_at (next_of prefixes i table) router p

-- what is chosen anew of rows that are enough for a round makes the next table
pub record MakeNext (i : RoutingInputs) (prefixes : List Cidr) (table : List (List BgpRowView)) (rows : List NumberedRow) (changes : List LocRibChange) : Type 0 where
  pub enough : AreEnough i prefixes table (map row_key rows)
  pub numbers : AreRows prefixes rows
  pub anew : AreChangesOf i prefixes table rows changes

-- with these rows put into it a table has everywhere what it is to have
pub record IsCompletedBy (target : ℕ → Cidr → List Chosen) (table : List (List BgpRowView)) (changes : List RowChange) : Type 0 where
  pub put : All (λ c. target c.key.0.0 c.key.1 ≡ c.chosen) changes
  pub others : (router : ℕ) (p : Cidr) → ¬ Contains (map (λ c. c.key) changes) (key router p) → chosen_at table router p ≡ target router p
