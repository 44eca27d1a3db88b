use Rattle.std.proofs.Common.{◌≡◌, ◌<◌, ◌≤◌, ℕ, List, All, Some, IfSome}
use Rattle.std.specs.Prelude.{slice_get}
use Rattle.std.specs.Option.{option_map}
use Rattle.nc_types.specs.Config.{config_view}
use Rattle.nc_policy.specs.declared.askers.Asker.{Asker}
use Rattle.nc_policy.specs.Views.{asked, candidate_view, map_names, IsCandidate}
use Rattle.nc_policy.specs.Walks.{IsBeaten, IsOfMap}
use Rattle.nc_policy.proofs.by_community.best_asked.Given as goal

-- the clauses so far are beaten
abbrev pub invariant-askers : goal.invariant-askers
invariant-askers l = record {
  candidate : IfSome l.best (IsCandidate (config_view l.config) (asked l.prefix l.held));
  named :
      (name : List ℕ) → All (λ (a : Asker). slice_get (map_names (config_view l.config)) a.place ≡ Some name) l.askers → IsOfMap name (option_map candidate_view l.before)
      → IsOfMap name (option_map candidate_view l.best);
  beats :
      (j : ℕ) → IsBeaten (config_view l.config) (asked l.prefix l.held) (option_map candidate_view l.before) j → IsBeaten (config_view l.config) (asked l.prefix l.held) (option_map candidate_view l.best) j;
  beaten :
      (k : ℕ) (a : Asker) → slice_get l.askers k ≡ Some a → l.from ≤ k → k < l.at → IsBeaten (config_view l.config) (asked l.prefix l.held) (option_map candidate_view l.best) a.place;
}
