use Rattle.std.proofs.Common.{◌≡◌, ◌<◌, ℕ, length, take, false, if◌then◌else◌}
use Rattle.nc_marks.specs.Sets.{flag}
use Rattle.nc_suite.specs.Counts.{is_listed}
use Rattle.nc_suite.proofs.listing.lower_flags.Given as goal

abbrev pub invariant-touches : goal.invariant-touches
invariant-touches l = record {
  len : length l.flags.items ≡ length l.initial.flags.items;
  flags : (e : ℕ) → e < length l.initial.flags.items
      → flag l.flags.items e ≡ (if is_listed (take l.touch-index l.touches) e then false else flag l.initial.flags.items e);
}
