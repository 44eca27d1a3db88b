use Rattle.std.proofs.Common.{◌≡◌, ◌^◌, ◌<◌, ◌++◌, ◌∷◌, [], length, map, take, get_or, List, All, sym, ap, subst, ◌∙◌, arith}
use Rattle.std.proofs.lemmas.List.{take_more, map_push}
use Rattle.std.proofs.lemmas.List.Elements.{All-push}
use Rattle.nc_types.specs.Config.{ConfigView, config_view}
use Rattle.nc_types.specs.Joining.{IsValid}
use Rattle.nc_types.specs.Network.{element_count}
use Rattle.nc_types.specs.declared.config.RouterConfig.{RouterConfig}
use Rattle.nc_tables.specs.declared.base.BaseRow.{BaseRow}
use Rattle.nc_tables.specs.Base.{base_table, AreRows}
use Rattle.nc_base_rib.specs.Links.{AreApart, HasOwnPrefix}
use Rattle.nc_base_rib.proofs.Few.{interfaces_at, statics_at}
use Rattle.nc_base_rib.proofs.Apart.{apart_at, covered_at}
use Rattle.nc_base_rib.proofs.tables.base_tables.Goals as goal

pub base_rows-requires-clause-interfaces : goal.base_rows-requires-clause-interfaces
base_rows-requires-clause-interfaces c =
    let routers = c.routers-config-items.result.now in
    let same : map config_view routers ≡ c.args.network.now = c.routers-config-items.ensures.routers in
    let valid : IsValid (map config_view routers) = subst IsValid (sym same) c.routers-config-items.ensures.valid in
    let few : element_count c.args.network.now < 2 ^ 32 = omega (arith, c.element_count-count.ensures.few) in
    let count : element_count (map config_view routers) < 2 ^ 32 = subst (λ (cs : List ConfigView). element_count cs < 2 ^ 32) (sym same) few in
    subst (λ (r : RouterConfig). length r.interfaces.items < 2 ^ 32) (sym c.config-item.is) (interfaces_at routers valid count c.routers.config-index c.config-item.result c.routers-test.true)

pub base_rows-requires-clause-statics : goal.base_rows-requires-clause-statics
base_rows-requires-clause-statics c =
    let routers = c.routers-config-items.result.now in
    let same : map config_view routers ≡ c.args.network.now = c.routers-config-items.ensures.routers in
    let valid : IsValid (map config_view routers) = subst IsValid (sym same) c.routers-config-items.ensures.valid in
    let few : element_count c.args.network.now < 2 ^ 32 = omega (arith, c.element_count-count.ensures.few) in
    let count : element_count (map config_view routers) < 2 ^ 32 = subst (λ (cs : List ConfigView). element_count cs < 2 ^ 32) (sym same) few in
    subst (λ (r : RouterConfig). length r.statics.items < 2 ^ 32) (sym c.config-item.is) (statics_at routers valid count c.routers.config-index c.config-item.result c.routers-test.true)

pub routers-preserved : goal.routers-preserved
routers-preserved c =
    let routers = c.routers-config-items.result.now in
    let k = c.routers.config-index in
    let r = c.config-item.result in
    let rows = c.in_ok-base_rows.field-0 in
    let items = c.in_ok-push.ensures.items in
    let here = c.in_ok-base_rows.ensures.table ∙ ap (λ (x : RouterConfig). base_table (config_view x)) c.config-item.is in
    record {
      tables =
          ap (map (λ v. v.items)) items
          ∙ map_push (λ v. v.items) c.routers.tables.items rows
          ∙ ap (λ (l : List (List BaseRow)). l ++ rows.items ∷ []) c.routers.invariant.tables
          ∙ ap (λ (l : List BaseRow). map base_table (map config_view (take k routers)) ++ l ∷ []) here
          ∙ sym (ap (λ (l : List RouterConfig). map base_table (map config_view l)) (take_more routers k r c.routers-test.true)
          ∙ ap (map base_table) (map_push config_view (take k routers) (get_or routers k r))
          ∙ map_push base_table (map config_view (take k routers)) (config_view (get_or routers k r)));
      rows = subst (λ l. All (λ v. AreRows v.items) l) (sym items) (All-push (λ v. AreRows v.items) c.routers.tables.items rows c.routers.invariant.rows c.in_ok-base_rows.ensures.rows);
    }

pub base_rows-requires-clause-apart : goal.base_rows-requires-clause-apart
base_rows-requires-clause-apart c =
    let routers = c.routers-config-items.result.now in
    let valid : IsValid (map config_view routers) = subst IsValid (sym c.routers-config-items.ensures.routers) c.routers-config-items.ensures.valid in
    subst (λ (r : RouterConfig). AreApart r.interfaces.items) (sym c.config-item.is) (apart_at routers valid c.routers.config-index c.config-item.result c.routers-test.true)

pub base_rows-requires-clause-covered : goal.base_rows-requires-clause-covered
base_rows-requires-clause-covered c =
    let routers = c.routers-config-items.result.now in
    let valid : IsValid (map config_view routers) = subst IsValid (sym c.routers-config-items.ensures.routers) c.routers-config-items.ensures.valid in
    subst (λ (r : RouterConfig). All HasOwnPrefix r.interfaces.items) (sym c.config-item.is) (covered_at routers valid c.routers.config-index c.config-item.result c.routers-test.true)
