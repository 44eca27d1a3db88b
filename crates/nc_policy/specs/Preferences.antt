-- How high a local preference a map sets.
use Rattle.std.specs.Prelude.{◌≡◌, ℕ, Bool, false, nat_eq, nat_lt, List, [], ◌∷◌, Option, Some, None, position, slice_index_or, unwrap_or, if◌then◌else◌}
use Rattle.std.specs.Str.{bytes_eq}
use Rattle.nc_types.specs.Config.{ClauseView, ConfigView}
use Rattle.nc_types.specs.declared.config.Reference.{Reference}
use Rattle.nc_policy.specs.Views.{map_names}

-- the higher of two
abbrev pub higher_of : ℕ → ℕ → ℕ
higher_of a b = if nat_lt a b then b else a

-- what a clause sets, if it is of a map and sets one
abbrev pub set_in : List ℕ → ClauseView → ℕ
set_in name k = if bytes_eq name k.map_name then unwrap_or k.preference 0 else 0

-- the highest that clauses of a map set; 0 where none sets one
abbrev pub highest_in : List ℕ → List ClauseView → ℕ
highest_in name [] = 0
highest_in name (k ∷ ks) = higher_of (highest_in name ks) (set_in name k)

-- the same of the map of a statement, if it has one
abbrev pub highest_preference : ConfigView → Option Reference → ℕ
highest_preference c None = 0
highest_preference c (Some reference) = highest_in reference.name c.clauses

-- a place is that of the first clause of a map
abbrev pub is_at_first : Option ℕ → ℕ → Bool
is_at_first None k = false
is_at_first (Some first) k = nat_eq first k

-- of each map, by the place of its first clause
abbrev pub AreHighest : ConfigView → List ℕ → Type 0
AreHighest c highest = (first : ℕ) (name : List ℕ) → position (bytes_eq name) (map_names c) ≡ Some first → slice_index_or highest first 0 ≡ highest_in name c.clauses
