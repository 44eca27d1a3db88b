use Rattle.nc_types.specs.Config.{config_view}
use Rattle.nc_rules_route.proofs.Numbers.{community_exists}
use Rattle.nc_rules_route.proofs.elements.community_element.Goals as goal

pub part_element-requires-clause-within : goal.part_element-requires-clause-within
part_element-requires-clause-within c = community_exists (config_view c.in_ok-config.config.now) c.in_ok-config.ensures.formed c.community_place.result c.in_ok-entry.entry c.community_place.ensures
