use Rattle.std.proofs.Common.{◌≡◌, ◌⊎◌, ◌<◌, ◌≤◌, ℕ, true, false, length}
use Rattle.std.specs.List.{sum_by}
use Rattle.nc_trace.specs.Counting.{AreBacked, IsLeast}
use Rattle.nc_trace.specs.Found.{covers, is_one_of}
use Rattle.nc_trace.proofs.counting.go_through.Given as goal

abbrev pub invariant-routers : goal.invariant-routers
invariant-routers l = record {
  backed : AreBacked l.asked.state.now l.asked.by l.asked.addr.0 l.found l.fewest;
  least : l.more ≡ false → (router : ℕ) → covers l.found router ≡ true → IsLeast l.asked.state.now l.asked.by l.asked.addr.0 l.found l.fewest router ⊎ (is_one_of l.left router ≡ true);
  these : (router : ℕ) → is_one_of l.left router ≡ true → covers l.found router ≡ true;
  smaller : l.more ≡ true → sum_by (λ n. n) l.fewest < sum_by (λ n. n) l.fn.fewest;
  no_larger : sum_by (λ n. n) l.fewest ≤ sum_by (λ n. n) l.fn.fewest;
}

abbrev pub decreases-routers : goal.decreases-routers
decreases-routers l = length l.left
