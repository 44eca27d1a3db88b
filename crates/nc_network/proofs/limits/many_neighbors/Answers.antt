use Rattle.std.proofs.Common.{◌≡◌, ℕ, ◌+◌, ◌<◌, List, map, drop, length, get_or, sym, ap, ◌∙◌, arith}
use Rattle.std.specs.List.{sum_by}
use Rattle.std.proofs.lemmas.Bool.{lt-ltb}
use Rattle.std.proofs.lemmas.List.Sums.{sum_by-cons}
use Rattle.nc_network.specs.declared.TheConstants.{NEIGHBOR_LIMIT}
use Rattle.nc_types.specs.declared.config.RouterConfig.{RouterConfig}
use Rattle.nc_types.specs.Config.{config_view}
use Rattle.nc_network.specs.Judged.{neighbors_in, neighbor_count}
use Rattle.nc_types.proofs.Walks.{drop_view}
use Rattle.nc_network.proofs.limits.many_neighbors.Goals as goal

one_more : (xs : List RouterConfig) (i : ℕ) (x : RouterConfig) → x ≡ get_or xs i x → i < length xs → sum_by neighbors_in (drop i (map config_view xs)) ≡ neighbors_in (config_view x) + sum_by neighbors_in (drop (i + 1) (map config_view xs))
one_more xs i x read lt = ap (sum_by neighbors_in) (drop_view config_view xs i x read lt) ∙ sum_by-cons neighbors_in (config_view x) (drop (i + 1) (map config_view xs))

pub returns-then-neighbors-count : goal.returns-then-neighbors-count
returns-then-neighbors-count c =
    let within : c.items.item-index < length c.args.routers.now = omega arith in
    let step = one_more c.args.routers.now c.items.item-index c.item-item.result c.item-item.is within in
    let total : c.items.count + sum_by neighbors_in (drop c.items.item-index (map config_view c.args.routers.now)) ≡ neighbor_count (map config_view c.args.routers.now) = c.items.invariant.rest in
    let here : c.neighbors_of-neighbors.result ≡ neighbors_in (config_view c.item-item.result) = c.neighbors_of-neighbors.ensures in
    sym (lt-ltb NEIGHBOR_LIMIT _ (omega (arith, step, total, here, c.if-neighbors-count.true)))

pub items-preserved : goal.items-preserved
items-preserved c =
    let within : c.items.item-index < length c.args.routers.now = omega arith in
    let step = one_more c.args.routers.now c.items.item-index c.item-item.result c.item-item.is within in
    let total : c.items.count + sum_by neighbors_in (drop c.items.item-index (map config_view c.args.routers.now)) ≡ neighbor_count (map config_view c.args.routers.now) = c.items.invariant.rest in
    let here : c.neighbors_of-neighbors.result ≡ neighbors_in (config_view c.item-item.result) = c.neighbors_of-neighbors.ensures in
    record { within = omega (arith, c.items.invariant.within, c.if-neighbors-count.false); rest = omega (arith, step, total, here) }
