use Rattle.std.proofs.Common.{ℕ, List, ◌++◌, take}
use Rattle.nc_cut.specs.Cuts.{IsFirstFree}
use Rattle.nc_cut.proofs.first.first_free.Given as goal

-- the variables so far are listed
abbrev pub invariant-variables : goal.invariant-variables
invariant-variables l = (listed : List ℕ) → IsFirstFree l.free listed l.fn.first → IsFirstFree l.free (listed ++ take l.variable-index l.variables) l.lowest
