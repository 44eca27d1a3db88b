use Rattle.std.proofs.Common.{rules, tests, ◌∙◌, sym}
use Rattle.std.specs.Str.{bytes_eq}
use Rattle.std.proofs.lemmas.Iterator.{YieldsList-from_slice}
use Rattle.std.proofs.lemmas.Iterator.Search.{position_from_yields_List}
use Rattle.nc_types.specs.Config.{CommunityListView, community_list_view}
use Rattle.nc_types.specs.declared.communities.CommunityList.{CommunityList}
use Rattle.nc_policy.proofs.Permitting.{position_map}
use Rattle.nc_policy.proofs.lists.first_community_list_named.Goals as goal

pub returns : goal.returns
returns c =
    let name = c.args.name.now in
    let lists = c.args.lists.now in
    position_from_yields_List (λ (l : CommunityList). bytes_eq name l.name) _ _ _ c.position.ensures.ran (YieldsList-from_slice lists cc) (λ x b q k. search (rules, tests))
    ∙ sym (position_map community_list_view (λ (l : CommunityListView). bytes_eq name l.name) lists)
