use Rattle.std.proofs.Common.{◌<◌, List, length, refl, ap, sym, ◌∙◌, arith}
use Rattle.std.specs.Prelude.{slice_get}
use Rattle.std.proofs.lemmas.List.{length-map}
use Rattle.nc_policy.specs.Indexes.{RouterTables}
use Rattle.nc_policy.specs.Seen.{router_tables, IsIndexed}
use Rattle.nc_policy.proofs.Permitting.{seen_at}
use Rattle.nc_policy.proofs.Raising.{high_at, none_high}
use Rattle.nc_policy.proofs.policies.Policies.highest_preference.Goals as goal

pub returns-in_default : goal.returns-in_default
returns-in_default c = λ config at. none_high config c.args.map.now (sym (c.requires.place config at) ∙ sym c.first_of.ensures ∙ c.in_default.is)

pub returns : goal.returns
returns c = λ config at.
    let all = c.self.inside.routers.items in
    let tables = c.index-tables.result.now in
    let within : c.args.router.0 < length all = omega (arith, c.requires.policies.count, c.requires.router, ap (length {A = RouterTables}) c.self.view_is, length-map all router_tables) in
    let found = seen_at router_tables all all c.args.router.0 tables refl within c.index-tables.ensures in
    let are : IsIndexed config tables = c.requires.policies.each c.args.router.0 config (router_tables tables) at (ap (λ (ts : List RouterTables). slice_get ts c.args.router.0) (sym c.self.view_is) ∙ found) in
    c.highest_at.ensures
    ∙ high_at config c.args.map.now tables.highest.items c.in-Some.first are.highest (sym c.in-Some.is ∙ c.first_of.ensures ∙ c.requires.place config at)
