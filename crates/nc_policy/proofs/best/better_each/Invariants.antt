use Rattle.std.proofs.Common.{◌≡◌, ◌≤◌, ℕ, Some, length}
use Rattle.std.specs.Prelude.{slice_get}
use Rattle.nc_types.specs.Config.{ClauseView, config_view}
use Rattle.nc_policy.specs.Best.{AreMatching}
use Rattle.nc_policy.proofs.Sweeping.{IsDone}
use Rattle.nc_policy.proofs.best.better_each.Given as goal

-- the prefixes before this one have their better clause, the others that of before
abbrev pub invariant-prefixes : goal.invariant-prefixes
invariant-prefixes l = record {
  count : length l.best.items ≡ length l.prefixes;
  best : AreMatching (config_view l.config) l.prefixes l.best.items;
  done : (k : ClauseView) → slice_get (config_view l.config).clauses l.place ≡ Some k → IsDone (config_view l.config) l.prefixes l.place k l.fn.best.items l.best.items l.number;
  left : (j : ℕ) → l.number ≤ j → slice_get l.best.items j ≡ slice_get l.fn.best.items j;
}
