use Rattle.std.proofs.Common.{◌≡◌, ◌-◌, ℕ, IfSome, Some, length, map}
use Rattle.std.specs.Prelude.{slice_get}
use Rattle.std.specs.Option.{option_map, option_map_or}
use Rattle.nc_types.specs.Config.{config_view, clause_view}
use Rattle.nc_tables.specs.Policy.{Placed, is_matching, deciding}
use Rattle.nc_policy.specs.Views.{asked, candidate_view, map_names, IsCandidate}
use Rattle.nc_policy.proofs.Deciding.{lower_of, rest_of, of_map}
use Rattle.nc_policy.proofs.clauses.scanned.Given as goal

-- the best clause so far and the clauses from the next one on give the deciding one
abbrev pub invariant-clauses : goal.invariant-clauses
invariant-clauses l = record {
  deciding :
      lower_of (option_map candidate_view l.best) (rest_of (of_map l.map (λ (k : Placed). is_matching (config_view l.config) (asked l.prefix l.held) k.clause)) (map clause_view l.config.clauses.items) l.next)
      ≡ deciding (config_view l.config) l.map (asked l.prefix l.held);
  named : (k : ℕ) → l.next ≡ Some k → slice_get (map_names (config_view l.config)) k ≡ Some l.map;
  best : IfSome l.best (IsCandidate (config_view l.config) (asked l.prefix l.held));
}

abbrev pub decreases-clauses : goal.decreases-clauses
decreases-clauses l = option_map_or (λ (k : ℕ). length l.config.clauses.items - k) l.next 0
