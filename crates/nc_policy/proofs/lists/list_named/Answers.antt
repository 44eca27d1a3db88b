use Rattle.std.proofs.Common.{Bor, Option, IfSome, subst, ◌∙◌}
use Rattle.std.specs.Str.{bytes_eq}
use Rattle.nc_types.specs.Config.{PrefixListView, config_view}
use Rattle.nc_policy.specs.declared.router_index.RouterIndex.{RouterIndex}
use Rattle.nc_policy.specs.Seen.{IsIndexed}
use Rattle.nc_policy.proofs.Permitting.{position_map}
use Rattle.nc_policy.proofs.lists.list_named.Goals as goal

pub returns-in-Some : goal.returns-in-Some
returns-in-Some c =
    let config = config_view c.args.config.now in
    let name = c.args.name.now in
    let tables : IsIndexed config c.in-Some.index.now = subst (λ (o : Option (Bor RouterIndex)). IfSome o (λ x. IsIndexed config x.now)) c.in-Some.is c.requires.indexed in
    c.place.ensures ∙ tables.lists.first name ∙ position_map (λ (l : PrefixListView). l.name) (bytes_eq name) config.lists
