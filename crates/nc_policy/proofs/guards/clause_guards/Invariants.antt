use Rattle.std.proofs.Common.{◌≡◌, ℕ, List, true, Some, None, length, map}
use Rattle.std.specs.Prelude.{slice_get}
use Rattle.nc_types.specs.Config.{ClauseView, clause_view, config_view}
use Rattle.nc_tables.specs.Policy.{community_place, met}
use Rattle.nc_policy.specs.declared.guards.Guard.{Guard}
use Rattle.nc_policy.specs.Guards.{is_unheld}
use Rattle.nc_policy.proofs.guards.clause_guards.Given as goal

-- the clauses so far have their guards
abbrev pub invariant-clauses : goal.invariant-clauses
invariant-clauses l = record {
  count : length l.guards.items ≡ l.clause-index;
  each : (k : ℕ) (e : ClauseView) (g : Guard) → slice_get (map clause_view l.config.clauses.items) k ≡ Some e → slice_get l.guards.items k ≡ Some g → (held : List ℕ) → is_unheld g held ≡ true → met (community_place (config_view l.config) held) e.community_lists ≡ None;
}
