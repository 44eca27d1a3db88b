-- The networks and aggregates of a router.
use Rattle.std.specs.Prelude.{List, []}
use Rattle.std.specs.Option.{option_map_or}
use Rattle.nc_types.specs.Config.{ConfigView}
use Rattle.nc_types.specs.declared.config.NetworkStatement.{NetworkStatement}
use Rattle.nc_types.specs.declared.config.AggregateStatement.{AggregateStatement}

abbrev pub networks_in : ConfigView → List NetworkStatement
networks_in c = option_map_or (λ p. p.networks) c.process []

abbrev pub aggregates_in : ConfigView → List AggregateStatement
aggregates_in c = option_map_or (λ p. p.aggregates) c.process []
