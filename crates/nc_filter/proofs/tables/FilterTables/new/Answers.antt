use Rattle.std.proofs.Common.{◌≡◌, ◌∷◌, [], ℕ, List, Some, length, map, ap, sym, subst, ◌∙◌, arith, length-append}
use Rattle.std.specs.Prelude.{slice_get}
use Rattle.std.specs.Option.{option_map}
use Rattle.std.proofs.lemmas.Option.{slice_get-get_or, slice_get-map}
use Rattle.nc_types.specs.Config.{ConfigView, config_view}
use Rattle.nc_filter.specs.declared.tables.RouterFilters.{RouterFilters}
use Rattle.nc_types.proofs.Few.{few_filters, few_in_network}
use Rattle.nc_filter.proofs.Forming.{formed_of}
use Rattle.nc_filter.proofs.Saying.{one_more}
use Rattle.nc_filter.proofs.tables.FilterTables.new.Goals as goal

pub filters_of-requires : goal.filters_of-requires
filters_of-requires c =
    let routers = c.args.network.now in
    let index = c.routers.config-index in
    let config = c.config-item.result in
    let configs = c.routers-configs.result.now in
    let seen : slice_get (map config_view configs) index ≡ Some (config_view config) =
    slice_get-map config_view configs index ∙ ap (option_map config_view) (slice_get-get_or configs index config c.routers-test.true ∙ ap Some (sym c.config-item.is)) in
    let at : slice_get routers index ≡ Some (config_view config) = subst (λ (cs : List ConfigView). slice_get cs index ≡ Some (config_view config)) c.routers-configs.ensures.routers seen in
    let formed = formed_of routers c.routers-configs.ensures.valid.each index (config_view config) at in
    omega (arith, c.element_count-few.ensures.few, few_filters (config_view config) formed, few_in_network routers index (config_view config) at)

pub routers-preserved : goal.routers-preserved
routers-preserved c =
    let routers = c.args.network.now in
    let configs = c.routers-configs.result.now in
    let index = c.routers.config-index in
    let config = c.config-item.result in
    let items = c.routers.routers.items in
    let one = c.in_ok-filters_of.field-0 in
    let seen : slice_get (map config_view configs) index ≡ Some (config_view config) =
    slice_get-map config_view configs index ∙ ap (option_map config_view) (slice_get-get_or configs index config c.routers-test.true ∙ ap Some (sym c.config-item.is)) in
    let here : slice_get routers index ≡ Some (config_view config) = subst (λ (cs : List ConfigView). slice_get cs index ≡ Some (config_view config)) c.routers-configs.ensures.routers seen in
    let at : slice_get routers (length items) ≡ Some (config_view config) = subst (λ (n : ℕ). slice_get routers n ≡ Some (config_view config)) (sym c.routers.invariant.count) here in
    record {
      count = omega (arith, ap (λ (xs : List RouterFilters). length xs) c.in_ok-push.ensures.items, length-append items (one ∷ []), c.routers.invariant.count);
      each = λ router d filters found there.
          one_more routers items one (config_view config) at c.in_ok-filters_of.ensures c.routers.invariant.each router d filters found
          (subst (λ (xs : List RouterFilters). slice_get xs router ≡ Some filters) c.in_ok-push.ensures.items there);
    }
