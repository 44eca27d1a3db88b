use Rattle.std.proofs.Common.{◌<◌, List, length, refl, ap, sym, ◌∙◌, arith}
use Rattle.std.specs.Prelude.{slice_get}
use Rattle.std.proofs.lemmas.List.{length-map}
use Rattle.nc_types.specs.Cidr.{Cidr, same_prefix}
use Rattle.nc_types.specs.declared.config.NetworkStatement.{NetworkStatement}
use Rattle.nc_policy.specs.Indexes.{RouterTables}
use Rattle.nc_policy.specs.Seen.{router_tables, IsIndexed}
use Rattle.nc_policy.specs.Statements.{networks_in}
use Rattle.nc_policy.proofs.Permitting.{position_map, seen_at}
use Rattle.nc_policy.proofs.policies.Policies.network_of.Goals as goal

pub returns : goal.returns
returns c = λ config at.
    let all = c.self.inside.routers.items in
    let tables = c.index-tables.result.now in
    let within : c.args.router.0 < length all = omega (arith, c.requires.policies.count, c.requires.router, ap (length {A = RouterTables}) c.self.view_is, length-map all router_tables) in
    let found = seen_at router_tables all all c.args.router.0 tables refl within c.index-tables.ensures in
    let are : IsIndexed config tables = c.requires.policies.each c.args.router.0 config (router_tables tables) at (ap (λ (ts : List RouterTables). slice_get ts c.args.router.0) (sym c.self.view_is) ∙ found) in
    c.place.ensures ∙ are.networks.first c.args.prefix ∙ position_map (λ (s : NetworkStatement). s.prefix) (λ (q : Cidr). same_prefix q c.args.prefix) (networks_in config)
