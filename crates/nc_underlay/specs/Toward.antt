-- Where the hits of each router lead for an address, and the address's owner.
use Rattle.std.specs.Prelude.{◌≡◌, ℕ, false, ◌==◌, List, [], length, slice_index_or}
use Rattle.std.specs.Option.{option_map_or}
use Rattle.nc_types.specs.Config.{ConfigView}
use Rattle.nc_tables.specs.declared.base.BaseRow.{BaseRow}
use Rattle.nc_tables.specs.Reach.{owns}
use Rattle.nc_underlay.specs.Distances.{nexts, nexts_view}
use Rattle.nc_underlay.specs.declared.toward.Toward.{Toward}

pub record IsToward (routers : List ConfigView) (tables : List (List BaseRow)) (addr : ℕ) (toward : Toward) : Type 0 where
  pub owner : (router : ℕ) → option_map_or (λ o. o.0 == router) toward.owner false ≡ owns routers router addr
  pub nexts : (router : ℕ) → slice_index_or (nexts_view toward.nexts.items) router [] ≡ nexts routers tables addr router
  pub count : length toward.nexts.items ≡ length routers
