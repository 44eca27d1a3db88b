use Rattle.std.proofs.Common.{◌≡◌, ◌<◌, ℕ, length, take, if◌then◌else◌}
use Rattle.nc_marks.specs.Sets.{has, flag}
use Rattle.nc_marks.proofs.flags.flag_set.Given as goal

abbrev pub invariant-elements : goal.invariant-elements
invariant-elements l = (e : ℕ) → e < length l.initial.flags
    → flag l.flags e ≡ (if has (take l.element-index l.set) e then l.value else flag l.initial.flags e)
