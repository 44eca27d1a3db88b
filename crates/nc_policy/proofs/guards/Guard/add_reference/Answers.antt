use Rattle.std.proofs.Common.{ap, sym, ◌∙◌}
use Rattle.std.specs.Str.{bytes_eq}
use Rattle.nc_types.specs.Config.{CommunityListView, config_view}
use Rattle.nc_tables.specs.Policy.{permitting_community}
use Rattle.nc_policy.specs.Indexes.{named_in}
use Rattle.nc_policy.specs.Seen.{name_table}
use Rattle.nc_policy.proofs.Outside.{none_at, none_placed, community_placed_by}
use Rattle.nc_policy.proofs.guards.Guard.add_reference.Goals as goal

pub returns-in-None-clause-reference : goal.returns-in-None-clause-reference
returns-in-None-clause-reference c = λ held out.
    let lists = (config_view c.args.config.now).community_lists in
    let name = c.args.reference.now.name in
    let table = name_table c.args.names.now in
    none_placed lists (λ (l : CommunityListView). bytes_eq name l.name) (λ (l : CommunityListView). permitting_community held l.entries)
    (sym (community_placed_by lists table name c.requires) ∙ ap (named_in table) (sym c.bytes.ensures) ∙ sym c.place.ensures ∙ c.in-None.is)

pub returns-in_ok-add_at-in-Some-clause-reference : goal.returns-in_ok-add_at-in-Some-clause-reference
returns-in_ok-add_at-in-Some-clause-reference c = λ held out.
    let lists = (config_view c.args.config.now).community_lists in
    let name = c.args.reference.now.name in
    let table = name_table c.args.names.now in
    none_at lists (λ (l : CommunityListView). bytes_eq name l.name) (λ (l : CommunityListView). permitting_community held l.entries) c.in-Some.place
    (sym (community_placed_by lists table name c.requires) ∙ ap (named_in table) (sym c.bytes.ensures) ∙ sym c.place.ensures ∙ c.in-Some.is)
    (λ l at. c.in_ok-add_at-in-Some.ensures.list held out l at)
