use Rattle.std.proofs.Common.{◌≡◌, ◌≤◌, ℕ, List, length, drop, Some}
use Rattle.std.specs.Prelude.{position, slice_index_or}
use Rattle.std.specs.Str.{bytes_eq}
use Rattle.nc_types.specs.Config.{config_view}
use Rattle.nc_policy.specs.Preferences.{highest_in}
use Rattle.nc_policy.specs.Views.{map_names}
use Rattle.nc_policy.proofs.preferences.highest_preferences.Given as goal

-- the clauses from a place on are noted
abbrev pub invariant-clauses : goal.invariant-clauses
invariant-clauses l = record {
  count : length l.highest.items ≡ length l.config.clauses.items;
  within : l.place ≤ length l.config.clauses.items;
  noted : (first : ℕ) (name : List ℕ) → position (bytes_eq name) (map_names (config_view l.config)) ≡ Some first → slice_index_or l.highest.items first 0 ≡ highest_in name (drop l.place (config_view l.config).clauses);
}

abbrev pub decreases-clauses : goal.decreases-clauses
decreases-clauses l = l.place
