use Rattle.nc_types.specs.Config.{config_view}
use Rattle.nc_rules_route.proofs.Numbers.{filter_exists}
use Rattle.nc_rules_route.proofs.elements.filter_element.Goals as goal

pub part_element-requires-clause-within : goal.part_element-requires-clause-within
part_element-requires-clause-within c = filter_exists (config_view c.in_ok-config.config.now) c.in_ok-config.ensures.formed c.filter_place.result c.args.entry c.filter_place.ensures
