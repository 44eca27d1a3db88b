-- What is said of runs that are judged.
use Rattle.std.specs.Prelude.{Bool, true, false}
use Rattle.nc_outside.specs.Counts.{one_more}
use Rattle.nc_trials.specs.declared.ending.Ending.{Ending}
use Rattle.nc_trials.specs.declared.judging.Verdict.{Verdict}
use Rattle.nc_trials.specs.declared.judging.Verdict.TheVariants.{Fine, Wrong, Called}

-- with one more run, which ended so and came to what it must or didn't: the first wrong one stays
abbrev pub with_run : Verdict → Ending → Bool → Verdict
with_run (Fine runs) ending true = Fine (one_more runs)
with_run (Fine runs) ending false = Wrong runs ending
with_run (Wrong run ending) _ _ = Wrong run ending
with_run (Called is_right) _ _ = Called is_right

-- whether nothing was wrong
abbrev pub fine_of : Verdict → Bool
fine_of (Fine _) = true
fine_of (Wrong _ _) = false
fine_of (Called is_right) = is_right
