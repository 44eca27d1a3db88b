-- The configurations of a network are well formed.
use Rattle.std.proofs.Common.{◌≡◌, ℕ, List, Some, All, subst}
use Rattle.std.specs.Prelude.{slice_get}
use Rattle.std.proofs.lemmas.Option.{get_or_from_slice_get, slice_get_within}
use Rattle.nc_types.specs.Config.{ConfigView}
use Rattle.nc_types.specs.WellFormed.{IsWellFormed}

pub formed_of : (routers : List ConfigView) → All IsWellFormed routers → (router : ℕ) (c : ConfigView) → slice_get routers router ≡ Some c → IsWellFormed c
formed_of routers each router c at = subst IsWellFormed (get_or_from_slice_get routers router c c at) (each router c (slice_get_within routers router c at))
