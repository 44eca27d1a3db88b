use Rattle.nc_types.specs.Config.{config_view}
use Rattle.nc_rules_route.proofs.Numbers.{entry_exists}
use Rattle.nc_rules_route.proofs.elements.entry_element.Goals as goal

pub part_element-requires-clause-within : goal.part_element-requires-clause-within
part_element-requires-clause-within c = entry_exists (config_view c.in_ok-config.config.now) c.in_ok-config.ensures.formed c.entry_place.result c.in_ok-entry.entry c.entry_place.ensures
