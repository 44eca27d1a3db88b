use Rattle.std.proofs.Common.{◌≡◌, ◌<◌, ◌||◌, ℕ, false, length, drop}
use Rattle.std.specs.Prelude.{slice_index_or}
use Rattle.nc_engine.specs.Cuts.{is_kept}
use Rattle.nc_engine.proofs.cuts.kept_routers.Given as goal

-- each router is marked for the names so far
abbrev pub invariant-names : goal.invariant-names
invariant-names l = record {
  long : length l.kept.items ≡ length l.network;
  marks : (router : ℕ) → router < length l.network → (slice_index_or l.kept.items router false || is_kept l.network (drop l.name-index l.names) router) ≡ is_kept l.network l.names router;
}
