use Rattle.std.proofs.Common.{◌-◌, ◌≡◌, ◌<◌, ◌≤◌, ℕ, slice_index_or}
use Rattle.nc_report.proofs.counter.before_nines.Given as goal

-- behind the place are nines
abbrev pub invariant-nines : goal.invariant-nines
invariant-nines l = record {
  from : l.start ≤ l.place;
  until : l.place ≤ l.end;
  nines : (place : ℕ) → l.place ≤ place → place < l.end → slice_index_or l.text place 0 ≡ 57;
}

abbrev pub decreases-nines : goal.decreases-nines
decreases-nines l = l.place - l.start
