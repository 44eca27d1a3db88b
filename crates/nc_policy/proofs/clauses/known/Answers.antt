use Rattle.std.specs.Prelude.{slice_get}
use Rattle.std.proofs.Common.{◌≡◌, ℕ, Some, Bor, Option, IfSome, subst}
use Rattle.nc_types.specs.Config.{config_view}
use Rattle.nc_policy.specs.declared.router_index.RouterIndex.{RouterIndex}
use Rattle.nc_policy.specs.Seen.{IsIndexed}
use Rattle.nc_policy.specs.Views.{map_names}
use Rattle.nc_policy.proofs.Deciding.{at_some, named_if}
use Rattle.nc_policy.proofs.clauses.known.Goals as goal

pub returns : goal.returns
returns c =
    let config = config_view c.args.config.now in
    let name = c.args.map.now in
    let index = c.in_ok-index.index.now in
    let tables : IsIndexed config index = subst (λ (o : Option (Bor RouterIndex)). IfSome o (λ x. IsIndexed config x.now)) c.in_ok-index.was c.requires.indexed in
    let own = at_some (λ (k : ℕ). slice_get (map_names config) k ≡ Some name) c.args.first (named_if name (map_names config) 0 c.args.first c.requires.first) c.in_ok-first.first c.in_ok-first.was in
    c.get.ensures config name tables.asked tables.kept own
