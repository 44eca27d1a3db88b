use Rattle.nc_types.specs.Config.{config_view}
use Rattle.nc_rules_route.proofs.Numbers.{group_exists}
use Rattle.nc_rules_route.proofs.elements.group_element.Goals as goal

pub part_element-requires-clause-within : goal.part_element-requires-clause-within
part_element-requires-clause-within c = group_exists (config_view c.in_ok-config.config.now) c.in_ok-config.ensures.formed c.group_place.result c.args.group c.group_place.ensures
