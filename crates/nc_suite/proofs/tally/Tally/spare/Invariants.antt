use Rattle.std.proofs.Common.{ℕ, ◌<◌, Some}
use Rattle.nc_marks.specs.Marks.{mark_of}
use Rattle.nc_suite.specs.Counts.{IsSpared}
use Rattle.nc_suite.proofs.tally.Tally.spare.Given as goal

abbrev pub invariant-elements : goal.invariant-elements
invariant-elements l = (e : ℕ) → e < l.element → IsSpared l.self e (mark_of l.marks (Some e))
