use Rattle.std.proofs.Common.{◌≡◌, ℕ, ◌<◌, ◌≤◌, [], All, length, map, drop, slice_index_or}
use Rattle.nc_round.specs.Parts.{cut_at}
use Rattle.nc_round.specs.Rows.{listed, row_key}
use Rattle.nc_round.specs.Waking.{changed_at}
use Rattle.nc_round.proofs.OfRouter.{all_of, GoByRouter}
use Rattle.nc_round.proofs.by_router.parts_of.Given as goal

abbrev pub invariant-routers : goal.invariant-routers
invariant-routers l = record {
  few : l.from ≤ length l.rows;
  up : GoByRouter (drop l.from l.rows);
  -- the rows from here on are of the routers that are left, and all of them
  behind : All (λ r. l.router ≤ r.router.0) (drop l.from l.rows);
  left : (r : ℕ) → l.router ≤ r → changed_at (map row_key (drop l.from l.rows)) r ≡ changed_at (map row_key l.rows) r;
  count : length l.parts.items ≡ l.router;
  within : All (λ p. (p.from ≤ p.to) × (p.to ≤ length l.rows)) l.parts.items;
  each : (r : ℕ) → r < l.router → slice_index_or (listed (cut_at (all_of l.rows) l.parts.items)) r [] ≡ changed_at (map row_key l.rows) r;
}
