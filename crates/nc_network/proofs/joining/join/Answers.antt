use Rattle.std.proofs.Common.{List, map, All, subst}
use Rattle.nc_types.specs.declared.config.RouterConfig.{RouterConfig}
use Rattle.nc_types.specs.Config.{config_view}
use Rattle.nc_types.specs.WellFormed.{IsWellFormed}
use Rattle.nc_types.specs.Joining.{IsValid}
use Rattle.nc_network.proofs.joining.join.Goals as goal

pub new-requires-clause-valid : goal.new-requires-clause-valid
new-requires-clause-valid c =
    subst (λ (routers : List RouterConfig). All IsWellFormed (map config_view routers) → IsValid (map config_view routers)) c.deref.ensures.value c.in_ok-judge.ensures.valid c.requires.formed
