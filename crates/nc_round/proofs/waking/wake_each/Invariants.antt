use Rattle.std.proofs.Common.{◌≡◌, ◌++◌, map, drop}
use Rattle.nc_round.specs.Rows.{numbered_row}
use Rattle.nc_round.proofs.waking.wake_each.Given as goal

-- what is woken so far and the rows of the prefixes that are left are all
abbrev pub invariant-noted : goal.invariant-noted
invariant-noted l = l.woken.items ++ map (numbered_row l.router) (drop l.of-index l.noted) ≡ l.fn.woken.items ++ map (numbered_row l.router) l.noted
