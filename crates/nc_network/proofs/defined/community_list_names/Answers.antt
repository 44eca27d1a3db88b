use Rattle.std.proofs.Common.{◌+◌, ◌<◌, map, drop, length, ◌∙◌, arith}
use Rattle.nc_types.specs.Config.{CommunityListView, community_list_view}
use Rattle.nc_network.proofs.Known.{known-more}
use Rattle.nc_types.proofs.Walks.{drop_views}
use Rattle.nc_network.proofs.defined.community_list_names.Goals as goal

pub named-preserved : goal.named-preserved
named-preserved c = λ q.
    let items = c.args.lists.now in
    let item = c.item-item.result in
    let within : c.named.item-index < length items = omega arith in
    known-more q item.name c.named.names.keys c.add.new.names.keys (drop (c.named.item-index + 1) (map (λ l. l.name) (map community_list_view items))) _ (c.in_ok-add.ensures q) (drop_views (λ (l : CommunityListView). l.name) community_list_view items c.named.item-index item c.item-item.is within) ∙ c.named.invariant q
