use Rattle.std.proofs.Common.{◌≡◌, ◌<◌, ℕ, List, All, Some, IfSome, true, nat_eq, get_or}
use Rattle.std.specs.Prelude.{slice_get}
use Rattle.std.specs.Option.{option_map}
use Rattle.nc_types.specs.Config.{config_view}
use Rattle.nc_policy.specs.declared.askers.Asker.{Asker}
use Rattle.nc_policy.specs.Views.{asked, candidate_view, map_names, IsCandidate}
use Rattle.nc_policy.specs.Walks.{IsBeaten, IsOfMap}
use Rattle.nc_policy.proofs.by_community.best_asked_of.Given as goal

-- the clauses that ask for one of the communities so far are beaten
abbrev pub invariant-communities : goal.invariant-communities
invariant-communities l = record {
  candidate : IfSome l.best (IsCandidate (config_view l.config) (asked l.prefix l.held));
  named :
      (name : List ℕ) → All (λ (a : Asker). slice_get (map_names (config_view l.config)) a.place ≡ Some name) l.askers → IsOfMap name (option_map candidate_view l.before)
      → IsOfMap name (option_map candidate_view l.best);
  beats :
      (j : ℕ) → IsBeaten (config_view l.config) (asked l.prefix l.held) (option_map candidate_view l.before) j → IsBeaten (config_view l.config) (asked l.prefix l.held) (option_map candidate_view l.best) j;
  beaten :
      (k : ℕ) (a : Asker) (i d : ℕ) → slice_get l.askers k ≡ Some a → i < l.community-index → nat_eq a.community (get_or l.communities i d) ≡ true
      → IsBeaten (config_view l.config) (asked l.prefix l.held) (option_map candidate_view l.best) a.place;
}
