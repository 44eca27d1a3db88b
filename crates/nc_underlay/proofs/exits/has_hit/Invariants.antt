use Rattle.std.proofs.Common.{◌≡◌, ◌-◌, false}
use Rattle.std.specs.List.{list_any, range_with_len}
use Rattle.nc_tables.specs.Reach.{is_hit}
use Rattle.nc_underlay.proofs.exits.has_hit.Given as goal

-- no row so far leads on
abbrev pub invariant-rows : goal.invariant-rows
invariant-rows l = list_any (is_hit l.base l.router.0) (range_with_len l.initial.place (l.place - l.initial.place)) ≡ false
