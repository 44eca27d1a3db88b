use Rattle.std.proofs.Common.{◌≡◌, ◌<◌, ℕ, length, take, Some, slice_get}
use Rattle.nc_types.specs.Tables.{claimed}
use Rattle.nc_types.proofs.network.owners.claim.Given as goal

abbrev pub invariant-lines : goal.invariant-lines
invariant-lines l = (k : ℕ) → k < length l.fn.owners → slice_get l.owners k ≡ Some (claimed l.place (take l.line-index l.lines) k (slice_get l.fn.owners k))
