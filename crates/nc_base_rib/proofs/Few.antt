-- A router of a valid network has few interfaces and few static routes.
use Rattle.std.proofs.Common.{◌≡◌, ℕ, ◌^◌, ◌<◌, List, length, map, get_or, Some, slice_get, sym, ap, subst, ◌∙◌, arith}
use Rattle.std.proofs.lemmas.List.{length-map, get_or-map}
use Rattle.std.specs.Option.{option_map}
use Rattle.std.proofs.lemmas.List.Sums.{get_or-le-sum_by}
use Rattle.std.proofs.lemmas.Option.{slice_get-map, slice_get-get_or}
use Rattle.nc_types.specs.declared.config.RouterConfig.{RouterConfig}
use Rattle.nc_types.specs.Config.{ConfigView, config_view}
use Rattle.nc_types.specs.WellFormed.{IsWellFormed}
use Rattle.nc_types.specs.Network.{element_count}
use Rattle.nc_types.specs.Joining.{IsValid}
use Rattle.nc_types.proofs.Few.{few_interfaces, few_statics}

module _ (routers : List RouterConfig) (valid : IsValid (map config_view routers)) (count : element_count (map config_view routers) < 2 ^ 32) (k : ℕ) (d : RouterConfig) (lt : k < length routers) where
  formed_at : IsWellFormed (config_view (get_or routers k d))
  formed_at = subst IsWellFormed (get_or-map config_view routers k d (config_view d) lt) (valid.each k (config_view d) (omega (arith, length-map routers config_view)))

  elements_at : length (config_view (get_or routers k d)).elements < 2 ^ 32
  elements_at =
      let here = get_or-le-sum_by (λ (c : ConfigView). length c.elements) (map config_view routers) k (config_view d) (omega (arith, length-map routers config_view)) in
      let same : length (get_or (map config_view routers) k (config_view d)).elements ≡ length (config_view (get_or routers k d)).elements = ap (λ (c : ConfigView). length c.elements) (get_or-map config_view routers k d (config_view d) lt) in
      omega arith

  pub interfaces_at : length (get_or routers k d).interfaces.items < 2 ^ 32
  interfaces_at = let few = few_interfaces (config_view (get_or routers k d)) formed_at in let all = elements_at in omega arith

  pub statics_at : length (get_or routers k d).statics.items < 2 ^ 32
  statics_at = let few = few_statics (config_view (get_or routers k d)) formed_at in let all = elements_at in omega arith

-- the configuration of a router, as the program finds it
pub config_at : (network : List ConfigView) (routers : List RouterConfig) (router : ℕ) (config : RouterConfig) → map config_view routers ≡ network → router < length routers → config ≡ get_or routers router config
    → slice_get network router ≡ Some (config_view config)
config_at network routers router config is lt at =
    ap (λ (cs : List ConfigView). slice_get cs router) (sym is) ∙ slice_get-map config_view routers router
    ∙ ap (option_map config_view) (slice_get-get_or routers router config lt ∙ ap (λ (c : RouterConfig). Some c) (sym at))
