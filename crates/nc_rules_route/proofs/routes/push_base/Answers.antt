use Rattle.std.proofs.Common.{[], ◌∷◌, ◌++◌, Option, ap, ◌∙◌}
use Rattle.std.specs.Option.{option_map_or}
use Rattle.nc_tables.specs.declared.base.BaseRow.{BaseRow}
use Rattle.nc_fact.specs.declared.fact.Fact.{Fact}
use Rattle.nc_rules_route.specs.Parents.{route_of, parents}
use Rattle.nc_rules_route.proofs.routes.push_base.Goals as goal

pub returns-in_ok-push-clause-ok : goal.returns-in_ok-push-clause-ok
unfolding parents
returns-in_ok-push-clause-ok c =
    c.in_ok-push.ensures.items ∙ ap (λ (f : Fact). c.args.into.now.items ++ f ∷ []) c.route_of.ensures
    ∙ ap (λ (o : Option BaseRow). c.args.into.now.items ++ option_map_or (λ r. route_of c.args.router r.from ∷ []) o []) c.in-Some.ensures
