use Rattle.std.proofs.Common.{◌≡◌, ◌-◌, map}
use Rattle.std.specs.List.{range_with_len}
use Rattle.nc_underlay.proofs.Nexts.{nexts_by}
use Rattle.nc_underlay.proofs.toward.nexts_of.Given as goal

-- where the rows so far lead
abbrev pub invariant-rows : goal.invariant-rows
invariant-rows l = record {
  made : map (λ next. next.0) l.made.items ≡ nexts_by l.network l.base l.addr.0 l.router.0 (range_with_len l.initial.place (l.place - l.initial.place));
}
