use Rattle.std.proofs.Common.{◌≡◌, ◌-◌, ℕ, List, All, IfSome, Some, None, true, false, length}
use Rattle.std.specs.Prelude.{slice_get}
use Rattle.std.specs.Option.{option_map_or}
use Rattle.nc_types.specs.Config.{ClauseView, config_view}
use Rattle.nc_tables.specs.Policy.{community_place, met}
use Rattle.nc_policy.specs.declared.askers.Asker.{Asker}
use Rattle.nc_policy.specs.Kept.{asks, is_asked_by}
use Rattle.nc_policy.specs.Views.{map_names}
use Rattle.nc_policy.proofs.Asking.{is_past}
use Rattle.nc_policy.proofs.asked.asked_by.Given as goal

-- the clauses so far that ask for communities are there
abbrev pub invariant-clauses : goal.invariant-clauses
invariant-clauses l = record {
  named : IfSome l.next (λ k. slice_get (map_names (config_view l.config)) k ≡ Some l.name);
  own : All (λ (a : Asker). slice_get (map_names (config_view l.config)) a.place ≡ Some l.name) l.askers.items;
  past :
      (j : ℕ) (k : ClauseView) → slice_get (config_view l.config).clauses j ≡ Some k → asks l.name k ≡ true → is_past l.next j ≡ true → (held : List ℕ) → is_asked_by l.askers.items j held ≡ false
      → met (community_place (config_view l.config) held) k.community_lists ≡ None;
}

abbrev pub decreases-clauses : goal.decreases-clauses
decreases-clauses l = option_map_or (λ (k : ℕ). length l.config.clauses.items - k) l.next 0
