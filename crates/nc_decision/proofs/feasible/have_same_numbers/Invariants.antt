use Rattle.std.proofs.Common.{◌≡◌, length}
use Rattle.std.specs.Str.{bytes_eq}
use Rattle.nc_decision.proofs.feasible.have_same_numbers.Given as goal

abbrev pub decreases-numbers : goal.decreases-numbers
decreases-numbers l = length l.a

-- what is left of both is the same exactly where the whole paths are
abbrev pub invariant-numbers : goal.invariant-numbers
invariant-numbers l = bytes_eq l.a l.b ≡ bytes_eq l.fn.a l.fn.b
