use Rattle.std.proofs.Common.{◌*◌, ◌<◌, ◌≤◌, List, [], length, ap, subst, ◌∙◌, arith}
use Rattle.std.specs.List.{slice_index_or}
use Rattle.std.proofs.lemmas.List.{length-map}
use Rattle.nc_types.specs.declared.TheConstants.{ROUTER_LIMIT, LINE_LIMIT}
use Rattle.nc_types.specs.Config.{ConfigView, config_view}
use Rattle.nc_types.specs.Network.{element_count}
use Rattle.nc_tables.specs.declared.bgp.MainRow.{MainRow}
use Rattle.nc_tables.specs.Forwarding.{Alternative}
use Rattle.nc_tables.specs.Longest.{AreByPrefix}
use Rattle.nc_trace.proofs.Beyond.{past_all, no_ways}
use Rattle.nc_rules_route.proofs.FewWays.{few_ways}
use Rattle.nc_rules_route.proofs.paths.count_ways.Goals as goal

pub returns-then-router-routers : goal.returns-then-router-routers
returns-then-router-routers c =
    let s = c.args.state.now in
    let beyond = past_all c.routers.result.now c.network-network.result.now s.routers c.args.router.0 c.routers.ensures.routers c.network-network.ensures.network c.if-router-routers.true in
    let none = ap (λ (ways : List Alternative). length ways) (no_ways s c.network-network.ensures.state c.args.router.0 beyond c.args.addr.0) in
    omega (arith, none, c.requires)

pub overflow_cast-result : goal.overflow_cast-result
overflow_cast-result c =
    let s = c.args.state.now in
    let router = c.args.router.0 in
    let all = ap (λ (cs : List ConfigView). length cs) (c.routers.ensures.routers ∙ c.network-network.ensures.network) in
    let within : router < length s.routers = omega (arith, all, length-map c.routers.result.now config_view, c.if-router-routers.false) in
    let elements = subst (λ (cs : List ConfigView). element_count cs ≤ ROUTER_LIMIT * LINE_LIMIT) c.network-network.ensures.network c.element_count-elements.ensures.few in
    let rows = c.rows-rows.ensures.rows ∙ ap (λ (t : List (List MainRow)). slice_index_or t router []) c.main.ensures.main in
    let ordered = subst (λ (rows : List MainRow). AreByPrefix (λ (row : MainRow). row.prefix) rows) rows c.rows-rows.ensures.ordered in
    let few = few_ways s c.network-network.ensures.state elements router c.args.addr.0 within ordered in
    omega (arith, few, c.requires)
