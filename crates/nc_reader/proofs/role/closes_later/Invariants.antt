use Rattle.std.proofs.Common.{◌≡◌, drop}
use Rattle.std.specs.List.{list_any}
use Rattle.nc_lines.specs.Blocks.{has_mark}
use Rattle.nc_reader.proofs.role.closes_later.Given as goal

abbrev pub invariant-loop-behind : goal.invariant-loop-behind
invariant-loop-behind l = (list_any has_mark (drop l.behind l.lines) ≡ list_any has_mark (drop l.number l.lines))
