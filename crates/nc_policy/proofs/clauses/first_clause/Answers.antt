use Rattle.std.proofs.Common.{Bor, Option, IfSome, subst, ◌∙◌}
use Rattle.std.specs.Str.{bytes_eq}
use Rattle.std.proofs.lemmas.Iterator.Adapters.{position_from-zero}
use Rattle.nc_types.specs.Config.{config_view}
use Rattle.nc_policy.specs.declared.router_index.RouterIndex.{RouterIndex}
use Rattle.nc_policy.specs.Seen.{IsIndexed}
use Rattle.nc_policy.specs.Views.{map_names}
use Rattle.nc_policy.proofs.clauses.first_clause.Goals as goal

pub returns-in-Some : goal.returns-in-Some
returns-in-Some c =
    let config = config_view c.args.config.now in
    let name = c.args.map.now in
    let tables : IsIndexed config c.in-Some.index.now = subst (λ (o : Option (Bor RouterIndex)). IfSome o (λ x. IsIndexed config x.now)) c.in-Some.is c.requires.indexed in
    c.place.ensures ∙ tables.maps.first name ∙ position_from-zero (bytes_eq name) (map_names config)
