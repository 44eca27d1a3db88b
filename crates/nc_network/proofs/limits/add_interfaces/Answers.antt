use Rattle.std.proofs.Common.{◌≡◌, ◌+◌, ◌<◌, [], ◌∷◌, Option, Some, drop, length, ap, arith}
use Rattle.std.specs.List.{filter_map}
use Rattle.std.specs.Option.{option_map}
use Rattle.nc_types.specs.Cidr.{Cidr}
use Rattle.nc_types.specs.declared.config.IfaceAddr.{IfaceAddr}
use Rattle.nc_types.specs.declared.config.Interface.{Interface}
use Rattle.nc_network.proofs.Counted.{stopped, kept-some}
use Rattle.nc_types.proofs.Walks.{drop_read}
use Rattle.nc_network.proofs.limits.add_interfaces.Goals as goal

abbrev prefix_of : Interface → Option Cidr
prefix_of i = option_map (λ a. a.prefix) i.address

pub returns-then-not-branch : goal.returns-then-not-branch
returns-then-not-branch c =
    let items = c.args.interfaces.now in
    let item = c.item-item.result in
    let within : c.items.item-index < length items = omega arith in
    let here : prefix_of item ≡ Some c.in-Some.address.prefix = ap (λ (o : Option IfaceAddr). option_map (λ (a : IfaceAddr). a.prefix) o) c.in-Some.is in
    let cut = kept-some prefix_of c.in-Some.address.prefix item (drop (c.items.item-index + 1) items) _ here (drop_read items c.items.item-index item c.item-item.is within) in
    stopped c.args.seen.now.keys c.items.seen.keys c.add.new.seen.keys (filter_map prefix_of items) (c.in-Some.address.prefix ∷ []) (filter_map prefix_of (drop (c.items.item-index + 1) items)) _ c.items.invariant cut _ c.in_ok-add.ensures c.if-not-branch.true
