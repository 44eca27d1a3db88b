-- How many elements a network has.
use Rattle.std.proofs.Common.{◌≡◌, ℕ, suc, ◌+◌, ◌*◌, ◌<◌, ◌≤◌, List, [], ◌∷◌, length, map, get_or, All, subst, arith}
use Rattle.std.proofs.lemmas.List.{length-map, get_or-map}
use Rattle.std.proofs.lemmas.List.Elements.{All-head, All-tail, All-map}
use Rattle.std.proofs.lemmas.List.Sums.{sum_by-cons}
use Rattle.nc_types.specs.declared.TheConstants.{ROUTER_LIMIT, LINE_LIMIT}
use Rattle.nc_types.specs.declared.config.RouterConfig.{RouterConfig}
use Rattle.nc_types.specs.Config.{ConfigView, element_view, config_view}
use Rattle.nc_types.specs.WellFormed.{IsWellFormed}
use Rattle.nc_types.specs.Network.{element_count}
pub use Rattle.nc_types.proofs.Few.{few_elements, few_interfaces}

-- so few routers of so few lines have few elements
pub count_bound : (routers : List ConfigView) (most : ℕ) → All (λ c. length c.elements ≤ most) routers → element_count routers ≤ length routers * most
count_bound [] most each = omega arith
count_bound (c ∷ cs) most each =
    let here : length c.elements ≤ most = All-head (λ (x : ConfigView). length x.elements ≤ most) c cs each in
    let there : element_count cs ≤ length cs * most = count_bound cs most (All-tail (λ (x : ConfigView). length x.elements ≤ most) c cs each) in
    let split : suc (length cs) * most ≡ most + length cs * most = omega arith in
    omega (arith, sum_by-cons (λ (x : ConfigView). length x.elements) c cs, split)

module _ (routers : List RouterConfig) (valid : All IsWellFormed (map config_view routers)) (lines : All (λ c. c.line_count ≤ LINE_LIMIT) routers) where
  formed_at : (k : ℕ) (d : RouterConfig) → k < length routers → IsWellFormed (config_view (get_or routers k d))
  formed_at k d lt = subst IsWellFormed (get_or-map config_view routers k d (config_view d) lt) (valid k (config_view d) (omega (arith, length-map routers config_view)))

  pub each_few : All (λ c. length c.elements.items ≤ LINE_LIMIT) routers
  each_few k d lt =
      let fewer = few_elements (config_view (get_or routers k d)) (formed_at k d lt) in
      omega (arith, fewer, lines k d lt, length-map (get_or routers k d).elements.items element_view)

  pub each_few_interfaces : All (λ c. length c.interfaces.items ≤ LINE_LIMIT) routers
  each_few_interfaces k d lt =
      let fewer = few_interfaces (config_view (get_or routers k d)) (formed_at k d lt) in
      omega (arith, fewer, each_few k d lt, length-map (get_or routers k d).elements.items element_view)

  pub all_few : length routers ≤ ROUTER_LIMIT → element_count (map config_view routers) ≤ ROUTER_LIMIT * LINE_LIMIT
  all_few few =
      let each : All (λ c. length c.elements ≤ LINE_LIMIT) (map config_view routers) =
      All-map (λ (c : ConfigView). length c.elements ≤ LINE_LIMIT) config_view routers (λ k d lt. omega (arith, each_few k d lt, length-map (get_or routers k d).elements.items element_view)) in
      omega (arith, count_bound (map config_view routers) LINE_LIMIT each, length-map routers config_view)
