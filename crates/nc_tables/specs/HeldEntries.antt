-- The candidates that a table holds for a prefix: none, one, or several.
use Rattle.std.specs.Prelude.{◌≡◌, List, [], ◌∷◌}
use Rattle.nc_tables.specs.Distances.{learnt_distance}
use Rattle.nc_tables.specs.declared.bgp.Chosen.{Chosen}
use Rattle.nc_tables.specs.declared.rib_entries.Held.{Held}
use Rattle.nc_tables.specs.declared.rib_entries.Held.TheVariants.{Nothing, Alone, Several}

abbrev pub held_entries : Held → List Chosen
held_entries Nothing = []
held_entries (Alone distance entry) = entry ∷ []
held_entries (Several entries) = entries.value.items

-- with one alone stands its distance
abbrev pub IsHeld : Held → Type 0
IsHeld Nothing = Unit {0}
IsHeld (Alone distance entry) = distance ≡ learnt_distance (entry ∷ [])
IsHeld (Several entries) = Unit {0}
