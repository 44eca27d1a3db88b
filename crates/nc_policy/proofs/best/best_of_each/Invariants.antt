use Rattle.std.proofs.Common.{◌≡◌, ◌-◌, ℕ, [], Option, Some, IfSome, length}
use Rattle.std.specs.Prelude.{slice_get}
use Rattle.std.specs.Option.{option_map, option_map_or}
use Rattle.nc_types.specs.Cidr.{Cidr}
use Rattle.nc_types.specs.Config.{config_view}
use Rattle.nc_tables.specs.Policy.{deciding}
use Rattle.nc_policy.specs.Best.{AreMatching}
use Rattle.nc_policy.specs.Views.{asked, candidate_view, map_names}
use Rattle.nc_policy.specs.declared.clauses.Candidate.{Candidate}
use Rattle.nc_policy.proofs.Deciding.{lower_of, rest_of}
use Rattle.nc_policy.proofs.Sweeping.{test}
use Rattle.nc_policy.proofs.best.best_of_each.Given as goal

-- for each prefix the best clause so far and the clauses from the next one on give the one that decides
abbrev pub invariant-clauses : goal.invariant-clauses
invariant-clauses l = record {
  named : IfSome l.next (λ k. slice_get (map_names (config_view l.config)) k ≡ Some l.name);
  count : length l.best.items ≡ length l.prefixes;
  deciding :
      (j : ℕ) (p : Cidr) (b : Option Candidate) → slice_get l.prefixes j ≡ Some p → slice_get l.best.items j ≡ Some b
      → lower_of (option_map candidate_view b) (rest_of (test (config_view l.config) l.name (asked p [])) (config_view l.config).clauses l.next) ≡ deciding (config_view l.config) l.name (asked p []);
  matching : AreMatching (config_view l.config) l.prefixes l.best.items;
}

abbrev pub decreases-clauses : goal.decreases-clauses
decreases-clauses l = option_map_or (λ (k : ℕ). length l.config.clauses.items - k) l.next 0
