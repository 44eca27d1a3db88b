use Rattle.nc_cut.specs.Known.{known_in}
use Rattle.nc_cut.proofs.WalkLemmas.{IsWalk}
use Rattle.nc_cut.proofs.cut.walk.Given as goal

abbrev pub invariant-walk : goal.invariant-walk
invariant-walk l = IsWalk l.store.nodes l.free l.fn.r (known_in l.sizes) l.at l.cut.items

abbrev pub decreases-walk : goal.decreases-walk
decreases-walk l = l.at
