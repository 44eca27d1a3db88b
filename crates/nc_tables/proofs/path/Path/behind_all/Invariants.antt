use Rattle.std.proofs.Common.{◌≡◌, ◌≤◌, ◌++◌, length, drop}
use Rattle.nc_tables.proofs.path.Path.behind_all.Given as goal

abbrev pub invariant-numbers : goal.invariant-numbers
invariant-numbers l = (l.place ≤ length l.numbers) × (l.path ≡ drop l.place l.numbers ++ l.fn.self)

abbrev pub decreases-numbers : goal.decreases-numbers
decreases-numbers l = l.place
