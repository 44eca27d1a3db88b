use Rattle.std.proofs.Common.{◌≡◌, ◌<◌, ℕ, Some, length, slice_get}
use Rattle.nc_tables.proofs.ribs.numbers.Given as goal

abbrev pub invariant-numbers : goal.invariant-numbers
invariant-numbers l = record {
  count : length l.numbers.items ≡ l.number;
  each : (k : ℕ) → k < l.number → slice_get l.numbers.items k ≡ Some k;
}
