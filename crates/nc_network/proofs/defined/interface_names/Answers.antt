use Rattle.std.proofs.Common.{◌+◌, ◌<◌, map, drop, length, ◌∙◌, arith}
use Rattle.nc_types.specs.declared.config.Interface.{Interface}
use Rattle.nc_network.proofs.Known.{known-more}
use Rattle.nc_types.proofs.Walks.{drop_view}
use Rattle.nc_network.proofs.defined.interface_names.Goals as goal

pub named-preserved : goal.named-preserved
named-preserved c = λ q.
    let items = c.args.interfaces.now in
    let item = c.item-item.result in
    let within : c.named.item-index < length items = omega arith in
    known-more q item.name c.named.names.keys c.add.new.names.keys (drop (c.named.item-index + 1) (map (λ i. i.name) items)) _ (c.in_ok-add.ensures q) (drop_view (λ (i : Interface). i.name) items c.named.item-index item c.item-item.is within) ∙ c.named.invariant q
