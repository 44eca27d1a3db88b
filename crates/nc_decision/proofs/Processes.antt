-- The process of a router, and the configuration that has it.
use Rattle.std.proofs.Common.{◌≡◌, ℕ, List, Option, Some, None, refl}
use Rattle.std.specs.Prelude.{option_and_then, slice_get}
use Rattle.nc_types.specs.Config.{ConfigView, ProcessView}
use Rattle.nc_tables.specs.Sessions.{process_of}

-- a router that has a process is there, with it
pub has_config : (routers : List ConfigView) (router : ℕ) (p : ProcessView) → process_of routers router ≡ Some p → (c : ConfigView) × (slice_get routers router ≡ Some c) × (c.process ≡ Some p)
has_config routers router p = on (slice_get routers router) refl
  where
    on : (o : Option ConfigView) → slice_get routers router ≡ o → option_and_then (λ (c : ConfigView). c.process) o ≡ Some p → (c : ConfigView) × (slice_get routers router ≡ Some c) × (c.process ≡ Some p)
    on None at e = absurd cc
    on (Some c) at e = (c, at, e)
