use Rattle.std.proofs.Common.{◌≡◌, ℕ, ◌<◌, true, Some, None, length, map}
use Rattle.std.specs.Prelude.{slice_get}
use Rattle.nc_types.specs.Cidr.{Cidr}
use Rattle.nc_types.specs.Config.{ClauseView, clause_view, config_view}
use Rattle.nc_tables.specs.Policy.{met, prefix_place}
use Rattle.nc_policy.specs.declared.spans.Span.{Span}
use Rattle.nc_policy.specs.Spans.{is_outside}
use Rattle.nc_policy.proofs.spans.clause_spans.Given as goal

-- the clauses so far have their spans
abbrev pub invariant-clauses : goal.invariant-clauses
invariant-clauses l = record {
  count : length l.spans.items ≡ l.clause-index;
  each : (k : ℕ) (e : ClauseView) (s : Span) → slice_get (map clause_view l.config.clauses.items) k ≡ Some e → slice_get l.spans.items k ≡ Some s → (p : Cidr) → p.base < 4294967296 → is_outside s p.base ≡ true → met (prefix_place (config_view l.config) p) e.lists ≡ None;
}
