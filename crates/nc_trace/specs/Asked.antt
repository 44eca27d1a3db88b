-- What is asked of the routers of a state is asked with what is right in it.
use Rattle.std.specs.Prelude.{◌≡◌, ℕ, ◌≤◌, false, ◌==◌, length}
use Rattle.std.specs.Option.{option_map_or}
use Rattle.nc_tables.specs.Reach.{owns}
use Rattle.nc_trace.specs.declared.levels.Question.{Question}
use Rattle.nc_trace.specs.Traced.{IsNone}

-- the owner of the address is known, and from no router that doesn't exist a packet arrives
pub record IsAsked (asked : Question) : Type 0 where
  pub owner : (router : ℕ) → option_map_or (λ o. o.0 == router) asked.owner false ≡ owns asked.state.now.routers router asked.addr.0
  pub none : (router : ℕ) → length asked.state.now.routers ≤ router → IsNone asked.state.now asked.addr.0 router
