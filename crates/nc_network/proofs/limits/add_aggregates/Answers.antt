use Rattle.std.proofs.Common.{◌+◌, ◌<◌, [], ◌∷◌, map, drop, length, arith}
use Rattle.nc_types.specs.declared.config.AggregateStatement.{AggregateStatement}
use Rattle.nc_network.proofs.Counted.{stopped, moved}
use Rattle.nc_types.proofs.Walks.{drop_view}
use Rattle.nc_network.proofs.limits.add_aggregates.Goals as goal

pub returns-then-not-branch : goal.returns-then-not-branch
returns-then-not-branch c =
    let items = c.args.aggregates.now in
    let field = λ (s : AggregateStatement). s.prefix in
    let within : c.items.item-index < length items = omega arith in
    let cut = drop_view field items c.items.item-index c.item-item.result c.item-item.is within in
    stopped c.args.seen.now.keys c.items.seen.keys c.add.new.seen.keys (map field items) (c.item-item.result.prefix ∷ []) (drop (c.items.item-index + 1) (map field items)) _ c.items.invariant cut _ c.in_ok-add.ensures c.if-not-branch.true

pub items-preserved : goal.items-preserved
items-preserved c =
    let items = c.args.aggregates.now in
    let field = λ (s : AggregateStatement). s.prefix in
    let within : c.items.item-index < length items = omega arith in
    let cut = drop_view field items c.items.item-index c.item-item.result c.item-item.is within in
    moved c.args.seen.now.keys c.items.seen.keys c.add.new.seen.keys (map field items) (c.item-item.result.prefix ∷ []) (drop (c.items.item-index + 1) (map field items)) _ c.items.invariant cut _ c.in_ok-add.ensures c.if-not-branch.false
