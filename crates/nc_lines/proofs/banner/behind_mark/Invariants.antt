use Rattle.std.proofs.Common.{◌≡◌, length}
use Rattle.nc_lines.specs.Blocks.{behind_mark}
use Rattle.nc_lines.proofs.banner.behind_mark.Given as goal

abbrev pub invariant-places : goal.invariant-places
invariant-places l = behind_mark l.fn.line ≡ behind_mark l.rest

abbrev pub decreases-places : goal.decreases-places
decreases-places l = length l.rest
