use Rattle.std.proofs.Common.{◌≡◌, ℕ, ◌<◌, [], length, slice_index_or}
use Rattle.nc_underlay.specs.Distances.{nexts, nexts_view}
use Rattle.nc_underlay.proofs.toward.Toward.new.Given as goal

-- where the routers so far lead
abbrev pub invariant-routers : goal.invariant-routers
invariant-routers l = record {
  count : length l.nexts.items ≡ l.router;
  made : (r : ℕ) → r < l.router → slice_index_or (nexts_view l.nexts.items) r [] ≡ nexts l.network l.base l.addr.0 r;
}
