use Rattle.std.proofs.Common.{map, ap, ◌∙◌, arith}
use Rattle.std.specs.Str.{bytes_eq}
use Rattle.nc_types.specs.Config.{CommunityListView, config_view, community_list_view}
use Rattle.nc_tables.specs.Policy.{permitting_community}
use Rattle.nc_policy.specs.Views.{named_community_list}
use Rattle.nc_policy.proofs.Few.{few_community_lists, few_of_community_list}
use Rattle.nc_policy.proofs.Permitting.{placed, seen_at, unplaced}
use Rattle.nc_policy.proofs.lists.community_place.Goals as goal

pub community_list_named-requires : goal.community_list_named-requires
community_list_named-requires c = record { indexed = c.requires.indexed }

pub returns-in_err-entry : goal.returns-in_err-entry
returns-in_err-entry c =
    let lists = c.args.config.now.community_lists.items in
    let list = c.in_ok-found.found.now in
    let read = c.in_ok-found.ensures.lookup in
    let at = seen_at community_list_view lists c.deref.result.now c.in_ok-list.list list c.deref.ensures.value read.3.0 read.1 in
    c.from_residual-in_err-entry.ensures
    ∙ unplaced (map community_list_view lists) (λ (l : CommunityListView). bytes_eq c.args.reference.now.name l.name) (λ (l : CommunityListView). permitting_community c.args.held.now l.entries) c.in_ok-list.list
    (community_list_view list) (c.in_ok-list.ensures ∙ ap (named_community_list (config_view c.args.config.now)) c.bytes.ensures) at c.in_err-entry.ensures.entry

pub place_number-requires : goal.place_number-requires
place_number-requires c = omega (arith, few_community_lists c.args.config.now c.requires.formed, c.in_ok-found.ensures.lookup.3.0)

pub place_number-requires-2 : goal.place_number-requires-2
place_number-requires-2 c =
    let list = c.in_ok-found.found.now in
    let read = c.in_ok-found.ensures.lookup in
    let at = seen_at community_list_view c.args.config.now.community_lists.items c.deref.result.now c.in_ok-list.list list c.deref.ensures.value read.3.0 read.1 in
    omega (arith, few_of_community_list c.args.config.now c.requires.formed c.in_ok-list.list (community_list_view list) at, c.in_ok-entry.ensures.within)

pub returns : goal.returns
returns c =
    let lists = c.args.config.now.community_lists.items in
    let list = c.in_ok-found.found.now in
    let read = c.in_ok-found.ensures.lookup in
    let at = seen_at community_list_view lists c.deref.result.now c.in_ok-list.list list c.deref.ensures.value read.3.0 read.1 in
    placed (map community_list_view lists) (λ (l : CommunityListView). bytes_eq c.args.reference.now.name l.name) (λ (l : CommunityListView). permitting_community c.args.held.now l.entries) c.in_ok-list.list c.in_ok-entry.entry (community_list_view list)
    (c.in_ok-list.ensures ∙ ap (named_community_list (config_view c.args.config.now)) c.bytes.ensures) at c.in_ok-entry.ensures.entry c.place_number.result c.place_number-2.result c.place_number.ensures c.place_number-2.ensures
