use Rattle.std.proofs.Common.{◌≡◌, ℕ, ◌-◌, ◌||◌}
use Rattle.std.specs.List.{list_any, range_with_len}
use Rattle.nc_underlay.specs.Levels.{flag, leads_there}
use Rattle.nc_underlay.proofs.levels.flag_next.Given as goal

abbrev pub invariant-rows : goal.invariant-rows
invariant-rows l = record {
  flags : (other : ℕ) → flag l.flags other ≡ (flag l.fn.flags other || list_any (leads_there l.network l.base l.router.0 l.addr.0 other) (range_with_len l.initial.place (l.place - l.initial.place)));
}
