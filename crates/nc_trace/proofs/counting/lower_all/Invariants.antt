use Rattle.std.proofs.Common.{◌≡◌, ◌+◌, false, cond}
use Rattle.std.specs.List.{sum_by}
use Rattle.nc_trace.specs.Counting.{AreBacked, AreLeast}
use Rattle.nc_trace.proofs.counting.lower_all.Given as goal

abbrev pub invariant-times : goal.invariant-times
invariant-times l = record {
  backed : AreBacked l.asked.state.now l.asked.by l.asked.addr.0 l.found l.fewest;
  least : l.more ≡ false → AreLeast l.asked.state.now l.asked.by l.asked.addr.0 l.found l.fewest;
}

abbrev pub decreases-times : goal.decreases-times
decreases-times l = sum_by (λ n. n) l.fewest + cond l.more 1 0
