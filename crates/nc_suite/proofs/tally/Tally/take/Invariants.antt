use Rattle.std.proofs.Common.{nat_lt, Some}
use Rattle.nc_marks.specs.Marks.{mark_of}
use Rattle.nc_suite.specs.Counts.{Adds, marked_if}
use Rattle.nc_suite.proofs.tally.Tally.take.Given as goal

abbrev pub invariant-elements : goal.invariant-elements
invariant-elements l = Adds (λ e. marked_if (nat_lt e l.element) (mark_of l.marks (Some e))) l.self l.initial.self
