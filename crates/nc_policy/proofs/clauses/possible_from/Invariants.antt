use Rattle.std.proofs.Common.{◌≡◌, ◌≤◌, ◌-◌, ℕ, List, IfSome, Some, length}
use Rattle.std.specs.Prelude.{slice_get}
use Rattle.std.specs.Option.{option_map_or}
use Rattle.nc_types.specs.Config.{config_view}
use Rattle.nc_tables.specs.Policy.{Placed, is_matching}
use Rattle.nc_policy.specs.Views.{asked, map_names}
use Rattle.nc_policy.specs.Walks.{of_map, rest_of}
use Rattle.nc_policy.proofs.clauses.possible_from.Given as goal

-- the clauses passed over match no route of the prefix
abbrev pub invariant-clauses : goal.invariant-clauses
invariant-clauses l = record {
  named : IfSome l.next (λ k. slice_get (map_names (config_view l.config)) k ≡ Some l.map);
  rest :
      (held : List ℕ) → rest_of (of_map l.map (λ (k : Placed). is_matching (config_view l.config) (asked l.prefix held) k.clause)) (config_view l.config).clauses l.next
      ≡ rest_of (of_map l.map (λ (k : Placed). is_matching (config_view l.config) (asked l.prefix held) k.clause)) (config_view l.config).clauses l.fn.from;
  behind : (least : ℕ) → IfSome l.fn.from (λ k. least ≤ k) → IfSome l.next (λ k. least ≤ k);
}

abbrev pub decreases-clauses : goal.decreases-clauses
decreases-clauses l = option_map_or (λ (k : ℕ). length l.config.clauses.items - k) l.next 0
