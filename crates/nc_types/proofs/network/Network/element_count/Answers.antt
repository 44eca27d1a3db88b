use Rattle.std.proofs.Common.{◌≡◌, ◌∙◌, ap, map, length, arith}
use Rattle.nc_types.specs.Config.{config_view}
use Rattle.nc_types.specs.Network.{element_count}
use Rattle.nc_types.proofs.Placing.{length-places_from}
use Rattle.nc_types.proofs.network.Network.element_count.Goals as goal

pub overflow_cast-result : goal.overflow_cast-result
overflow_cast-result c =
    let count : length c.self.inside.tables.places.items ≡ element_count (map config_view c.self.inside.routers.items) = ap length c.self.invariant.served.places ∙ length-places_from 0 (map config_view c.self.inside.routers.items) in
    omega (arith, c.self.invariant.few)

pub returns-clause-count : goal.returns-clause-count
returns-clause-count c =
    let count : length c.self.inside.tables.places.items ≡ element_count (map config_view c.self.inside.routers.items) = ap length c.self.invariant.served.places ∙ length-places_from 0 (map config_view c.self.inside.routers.items) in
    rw (← c.self.view_is) (omega arith)
