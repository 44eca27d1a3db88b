use Rattle.std.proofs.Common.{◌≡◌, ◌||◌, ◌<◌, ℕ, length, take}
use Rattle.nc_marks.specs.Sets.{flag, in_some}
use Rattle.nc_marks.proofs.flags.flag_strong.Given as goal

abbrev pub invariant-nodes : goal.invariant-nodes
invariant-nodes l = (e : ℕ) → e < length l.initial.flags → flag l.flags e ≡ (in_some l.sets l.places (take l.node-index l.nodes) e || flag l.initial.flags e)
