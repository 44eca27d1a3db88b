use Rattle.std.proofs.Common.{◌≡◌, ◌<◌, ℕ, length, slice_index_or, take}
use Rattle.nc_report.specs.Texts.{count_of}
use Rattle.nc_report.proofs.shown.counts_of.Given as goal

abbrev pub invariant-letters : goal.invariant-letters
invariant-letters l = record {
  len : length l.counts.items ≡ 256;
  each : (sign : ℕ) → sign < 256 → slice_index_or l.counts.items sign 0 ≡ count_of sign (take l.sign-index l.letters);
}
