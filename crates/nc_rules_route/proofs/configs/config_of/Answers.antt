use Rattle.std.proofs.Common.{◌^◌, ◌<◌, length, subst, arith}
use Rattle.nc_types.specs.WellFormed.{IsWellFormed}
use Rattle.nc_types.specs.Network.{element_count}
use Rattle.nc_fact.proofs.Few.{formed_at}
use Rattle.nc_types.proofs.Few.{few_interfaces, few_in_network}
use Rattle.nc_rules_route.proofs.ElementFacts.{of_config}
use Rattle.nc_rules_route.proofs.configs.config_of.Goals as goal

pub returns-clause-formed : goal.returns-clause-formed
returns-clause-formed c = of_config c.config_at.result c.config_at.ensures IsWellFormed (λ d at. formed_at c.args.state.now.routers c.network.ensures.state.valid.each c.args.router.0 d at)

pub returns-clause-few : goal.returns-clause-few
returns-clause-few c =
    let routers = c.args.state.now.routers in
    let count : element_count c.network.result.now < 2 ^ 32 = omega (arith, c.element_count-few.ensures.few) in
    let few : element_count routers < 2 ^ 32 = subst (λ cs. element_count cs < 2 ^ 32) c.network.ensures.network count in
    of_config c.config_at.result c.config_at.ensures (λ d. length d.interfaces < 2 ^ 32) (λ d at. let some = few_interfaces d (formed_at routers c.network.ensures.state.valid.each c.args.router.0 d at) in let most = few_in_network routers c.args.router.0 d at in omega arith)
