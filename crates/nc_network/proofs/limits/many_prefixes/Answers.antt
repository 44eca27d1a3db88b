use Rattle.std.proofs.Common.{◌≡◌, ◌+◌, ◌<◌, ◌≤◌, List, [], map, drop, length, sym, ap, ◌∙◌, arith}
use Rattle.std.specs.List.{flat_map}
use Rattle.std.specs.Prelude.{nat_lt}
use Rattle.std.proofs.lemmas.Bool.{lt-ltb}
use Rattle.std.proofs.lemmas.List.{drop_all, length-map}
use Rattle.nc_network.specs.declared.TheConstants.{PREFIX_LIMIT}
use Rattle.nc_types.specs.Cidr.{Cidr}
use Rattle.nc_types.specs.Config.{ConfigView, config_view}
use Rattle.nc_network.specs.Judged.{prefixes_in, new_after}
use Rattle.nc_network.specs.Steps.{added}
use Rattle.nc_network.proofs.Counted.{left-many, left-more, added-new}
use Rattle.nc_types.proofs.Walks.{drop_view}
use Rattle.nc_network.proofs.limits.many_prefixes.Goals as goal

abbrev all_of : List ConfigView → List Cidr
all_of cs = flat_map prefixes_in cs

counted : (total : List Cidr) → length (added [] total) ≡ length (new_after [] total)
counted total = ap length (added-new [] total)

pub returns-then-not-branch : goal.returns-then-not-branch
returns-then-not-branch c =
    let items = c.args.routers.now in
    let item = c.item-item.result in
    let within : c.items.item-index < length items = omega arith in
    let total : List Cidr = all_of (map config_view items) in
    let cut = ap all_of (drop_view config_view items c.items.item-index item c.item-item.is within) in
    let many : PREFIX_LIMIT < length (added [] total) = left-many [] c.items.seen.keys total (prefixes_in (config_view item)) (all_of (drop (c.items.item-index + 1) (map config_view items))) _ c.items.invariant cut (c.in_ok-add_router.ensures.many c.if-not-branch.true) in
    sym (lt-ltb PREFIX_LIMIT _ (omega (arith, counted total)))

pub items-preserved : goal.items-preserved
items-preserved c =
    let items = c.args.routers.now in
    let item = c.item-item.result in
    let within : c.items.item-index < length items = omega arith in
    let total : List Cidr = all_of (map config_view items) in
    let cut = ap all_of (drop_view config_view items c.items.item-index item c.item-item.is within) in
    left-more [] c.items.seen.keys c.add_router.new.seen.keys total (prefixes_in (config_view item)) (all_of (drop (c.items.item-index + 1) (map config_view items))) _ c.items.invariant cut (c.in_ok-add_router.ensures.some c.if-not-branch.false)

pub returns : goal.returns
returns c =
    let items = c.args.routers.now in
    let total : List Cidr = all_of (map config_view items) in
    let past : length (map config_view items) ≤ c.items.item-index = omega (arith, length-map items config_view) in
    let same : c.items.seen.keys ≡ added [] total = sym (ap (λ (cs : List ConfigView). added c.items.seen.keys (all_of cs)) (drop_all c.items.item-index (map config_view items) past)) ∙ c.items.invariant.rest in
    ap (nat_lt PREFIX_LIMIT) (c.len.ensures.len ∙ ap length same ∙ counted total)
