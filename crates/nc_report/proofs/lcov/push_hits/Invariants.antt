use Rattle.std.proofs.Common.{◌≡◌, ◌+◌, ◌++◌, ◌≤◌, length}
use Rattle.std.specs.List.{flat_map}
use Rattle.nc_report.specs.Counters.{IsRecord}
use Rattle.nc_report.specs.Texts.{hit_at, hit_count, hit_line, listed, places}
use Rattle.nc_report.proofs.lcov.push_hits.Given as goal

-- the records so far, and how many they are
abbrev pub invariant-letters : goal.invariant-letters
invariant-letters l = record {
  out : l.out.items ≡ l.fn.out.items ++ flat_map hit_line (flat_map (λ place. listed (hit_at l.letters place)) (places l.letter-index));
  found : l.tally.found ≡ length (flat_map (λ place. listed (hit_at l.letters place)) (places l.letter-index));
  hit : l.tally.hit ≡ hit_count (flat_map (λ place. listed (hit_at l.letters place)) (places l.letter-index));
  few : length (flat_map (λ place. listed (hit_at l.letters place)) (places l.letter-index)) ≤ l.letter-index;
  is : IsRecord l.counter;
  number : l.counter.number ≡ l.letter-index + 1;
}
