use Rattle.std.proofs.Common.{◌≡◌, ℕ, List, Option, Some, refl, ap, sym, ◌∙◌}
use Rattle.std.specs.Prelude.{slice_get}
use Rattle.nc_types.specs.Config.{ConfigView, config_view}
use Rattle.nc_types.specs.WellFormed.{IsWellFormed}
use Rattle.nc_types.proofs.Members.{all_in, in_by_get}
use Rattle.nc_types.specs.declared.config.Reference.{Reference}
use Rattle.nc_tables.specs.Rounds.{passed, passed_by}
use Rattle.nc_tables.specs.Policy.{verdict}
use Rattle.nc_policy.specs.Indexes.{place_from}
use Rattle.nc_policy.specs.Views.{map_names}
use Rattle.nc_policy.proofs.Keeping.{map_stands}
use Rattle.nc_policy.proofs.Tables.{config_at}
use Rattle.nc_policy.proofs.policies.Policies.pass_at.Goals as goal

pub pass_map-requires-clause-indexed : goal.pass_map-requires-clause-indexed
pass_map-requires-clause-indexed c = c.tables.ensures c.args.network.now (config_view c.index-routers-number.result) c.requires.policies
    (config_at c.args.network.now c.routers.result.now c.args.router.0 c.index-routers-number.result c.routers.ensures.routers c.requires.router c.index-routers-number.is)

pub pass_map-requires-clause-formed : goal.pass_map-requires-clause-formed
pass_map-requires-clause-formed c = all_in IsWellFormed c.args.network.now c.routers.ensures.valid.each (config_view c.index-routers-number.result) (in_by_get c.args.network.now c.args.router.0 (config_view c.index-routers-number.result)
    (config_at c.args.network.now c.routers.result.now c.args.router.0 c.index-routers-number.result c.routers.ensures.routers c.requires.router c.index-routers-number.is))

pub returns-clause-passed : goal.returns-clause-passed
returns-clause-passed c = λ other r at p l h.
    let config = config_view c.index-routers-number.result in
    let here : slice_get c.args.network.now c.args.router.0 ≡ Some config =
    config_at c.args.network.now c.routers.result.now c.args.router.0 c.index-routers-number.result c.routers.ensures.routers c.requires.router c.index-routers-number.is in
    let one : Some config ≡ Some other = sym here ∙ at in
    let same : config ≡ other = cc in
    c.pass_map.ensures.passed r p l h
    ∙ ap (λ (name : List ℕ). passed_by (verdict config name r)) c.bytes-name.ensures
    ∙ ap (λ (k : ConfigView). passed k (Some c.in-Some.reference) r) same
    ∙ ap (λ (o : Option Reference). passed other o r) (sym c.in-Some.is)

pub pass_map-requires-clause-first : goal.pass_map-requires-clause-first
pass_map-requires-clause-first c =
    let config = config_view c.index-routers-number.result in
    let here : slice_get c.args.network.now c.args.router.0 ≡ Some config =
    config_at c.args.network.now c.routers.result.now c.args.router.0 c.index-routers-number.result c.routers.ensures.routers c.requires.router c.index-routers-number.is in
    c.first_of-first.ensures ∙ c.requires.place config here
    ∙ sym (map_stands config config c.args.map.now c.in-Some.reference c.bytes-name.result.now (place_from c.bytes-name.result.now 0 (map_names config)) refl c.in-Some.is c.bytes-name.ensures refl)
