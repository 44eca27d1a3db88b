use Rattle.nc_types.specs.Config.{config_view}
use Rattle.nc_rules_route.proofs.Numbers.{clause_exists}
use Rattle.nc_rules_route.proofs.elements.clause_element.Goals as goal

pub part_element-requires-clause-within : goal.part_element-requires-clause-within
part_element-requires-clause-within c = clause_exists (config_view c.in_ok-config.config.now) c.in_ok-config.ensures.formed c.clause_place.result c.args.clause c.clause_place.ensures
