use Rattle.std.proofs.Common.{sym, arith}
use Rattle.nc_types.specs.Config.{config_view}
use Rattle.nc_types.proofs.Few.{few_filters, few_groups, few_in_network}
use Rattle.nc_filter.proofs.Forming.{formed_of}
use Rattle.nc_filter.proofs.configs.config_of.Goals as goal

pub returns-clause-formed : goal.returns-clause-formed
returns-clause-formed c =
    formed_of c.args.network.now c.routers-valid.ensures.valid.each c.args.router.0 (config_view c.in_ok-config.config.now) (sym c.in_ok-config.ensures)

pub returns-clause-few : goal.returns-clause-few
returns-clause-few c =
    let routers = c.args.network.now in
    let view = config_view c.in_ok-config.config.now in
    let formed = formed_of routers c.routers-valid.ensures.valid.each c.args.router.0 view (sym c.in_ok-config.ensures) in
    omega (arith, c.element_count-few.ensures.few, few_filters view formed, few_groups view formed, few_in_network routers c.args.router.0 view (sym c.in_ok-config.ensures))
