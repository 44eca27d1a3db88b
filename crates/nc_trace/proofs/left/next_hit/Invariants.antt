use Rattle.std.proofs.Common.{◌≡◌, ◌-◌, filter}
use Rattle.std.specs.List.{range_with_len}
use Rattle.nc_tables.specs.Reach.{is_hit}
use Rattle.nc_trace.specs.Left.{places}
use Rattle.nc_trace.proofs.left.next_hit.Given as goal

abbrev pub invariant-rows : goal.invariant-rows
invariant-rows l = record {
  left : filter (is_hit l.state.base l.router.0) (places l.fn.rows) ≡ filter (is_hit l.state.base l.router.0) (range_with_len l.place (l.fn.rows.to - l.place));
}
