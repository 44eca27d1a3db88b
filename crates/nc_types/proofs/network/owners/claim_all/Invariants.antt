use Rattle.std.proofs.Common.{◌≡◌, ◌<◌, ℕ, length, map, take, Some, slice_get}
use Rattle.nc_types.specs.Config.{element_view}
use Rattle.nc_types.specs.Tables.{owner_in}
use Rattle.nc_types.proofs.network.owners.claim_all.Given as goal

-- the owners among the elements so far
abbrev pub invariant-elements : goal.invariant-elements
invariant-elements l = (k : ℕ) → k < length l.fn.owners → slice_get l.owners k ≡ Some (owner_in (map element_view (take l.place l.elements)) k)
