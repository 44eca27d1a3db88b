use Rattle.std.proofs.Common.{◌≡◌, ◌^◌, ◌<◌, List, length, map, All, Option, option_and_then, slice_get, sym, ap, subst, ◌∙◌, arith}
use Rattle.nc_types.specs.Config.{ConfigView, config_view}
use Rattle.nc_types.specs.Joining.{IsValid}
use Rattle.nc_types.specs.Network.{element_count}
use Rattle.nc_types.specs.declared.config.Interface.{Interface}
use Rattle.nc_types.specs.declared.config.StaticRoute.{StaticRoute}
use Rattle.nc_types.specs.declared.config.RouterConfig.{RouterConfig}
use Rattle.nc_tables.specs.declared.base.BaseRow.{BaseRow}
use Rattle.nc_tables.specs.Base.{static_row}
use Rattle.nc_base_rib.specs.Links.{AreApart, HasOwnPrefix}
use Rattle.nc_base_rib.proofs.Few.{interfaces_at, config_at}
use Rattle.nc_base_rib.proofs.Apart.{apart_at, covered_at}
use Rattle.nc_base_rib.proofs.statics.static_row.Goals as goal

pub row_at-requires-clause-few : goal.row_at-requires-clause-few
row_at-requires-clause-few c =
    let routers = c.routers.result.now in
    let at = c.in_ok-config.ensures.lookup in
    let config = c.in_ok-config.config.now in
    let same : map config_view routers ≡ c.args.network.now = c.routers.ensures.routers in
    let few : element_count c.args.network.now < 2 ^ 32 = omega (arith, c.element_count-count.ensures.few) in
    let count : element_count (map config_view routers) < 2 ^ 32 = subst (λ (cs : List ConfigView). element_count cs < 2 ^ 32) (sym same) few in
    let here = interfaces_at routers (subst IsValid (sym same) c.routers.ensures.valid) count c.args.router.0 config at.3.0 in
    subst (λ (is : List Interface). length is < 2 ^ 32) (sym c.deref.ensures.value) (subst (λ (r : RouterConfig). length r.interfaces.items < 2 ^ 32) (sym at.1) here)

pub row_at-requires-clause-apart : goal.row_at-requires-clause-apart
row_at-requires-clause-apart c =
    let routers = c.routers.result.now in
    let at = c.in_ok-config.ensures.lookup in
    let here = apart_at routers (subst IsValid (sym c.routers.ensures.routers) c.routers.ensures.valid) c.args.router.0 c.in_ok-config.config.now at.3.0 in
    subst AreApart (sym c.deref.ensures.value) (subst (λ (r : RouterConfig). AreApart r.interfaces.items) (sym at.1) here)

pub row_at-requires-clause-covered : goal.row_at-requires-clause-covered
row_at-requires-clause-covered c =
    let routers = c.routers.result.now in
    let at = c.in_ok-config.ensures.lookup in
    let here = covered_at routers (subst IsValid (sym c.routers.ensures.routers) c.routers.ensures.valid) c.args.router.0 c.in_ok-config.config.now at.3.0 in
    subst (All HasOwnPrefix) (sym c.deref.ensures.value) (subst (λ (r : RouterConfig). All HasOwnPrefix r.interfaces.items) (sym at.1) here)

pub returns : goal.returns
returns c =
    let at = c.in_ok-config.ensures.lookup in
    let place = c.args.place in
    c.row_at.ensures
    ∙ ap (λ (is : List Interface). option_and_then {U = BaseRow} (λ (s : StaticRoute). static_row is place s) (slice_get c.deref-2.result.now place)) c.deref.ensures.value
    ∙ ap (λ (ss : List StaticRoute). option_and_then {U = BaseRow} (λ (s : StaticRoute). static_row c.in_ok-config.config.now.interfaces.items place s) (slice_get ss place)) c.deref-2.ensures.value
    ∙ sym (ap (λ (o : Option ConfigView). option_and_then (λ (r : ConfigView). option_and_then {U = BaseRow} (λ (s : StaticRoute). static_row r.interfaces place s) (slice_get r.statics place)) o)
    (config_at c.args.network.now c.routers.result.now c.args.router.0 c.in_ok-config.config.now c.routers.ensures.routers at.3.0 at.1))
