use Rattle.std.proofs.Common.{◌≡◌, ◌<◌, ℕ, true, None, length}
use Rattle.std.specs.List.{slice_index_or}
use Rattle.std.specs.Option.{is_some}
use Rattle.nc_trace.specs.Found.{is_one_of}
use Rattle.nc_trace.proofs.found.forget.Given as goal

abbrev pub invariant-routers : goal.invariant-routers
invariant-routers l = record {
  listed : (router : ℕ) → is_some (slice_index_or l.spans router None) ≡ true → is_one_of l.left router ≡ true;
  within : (router : ℕ) → is_one_of l.left router ≡ true → router < length l.spans;
}

abbrev pub decreases-routers : goal.decreases-routers
decreases-routers l = length l.left
