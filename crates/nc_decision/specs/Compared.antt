-- A candidate that is compared, as the definitions of BGP have it.
use Rattle.nc_tables.specs.declared.bgp.Chosen.{Chosen}
use Rattle.nc_decision.specs.declared.compared.Compared.{Compared}
use Rattle.nc_decision.specs.declared.compared.Compared.TheVariants.{Standing, New}

abbrev pub compared_view : Compared → Chosen
compared_view (Standing chosen) = chosen.now
compared_view (New feasible) = feasible.now
