use Rattle.std.proofs.Common.{◌≡◌, Some, ap, sym, ◌∙◌}
use Rattle.std.specs.Prelude.{slice_get}
use Rattle.nc_types.specs.Config.{ConfigView, config_view}
use Rattle.nc_types.specs.WellFormed.{IsWellFormed}
use Rattle.nc_types.proofs.Members.{all_in, in_by_get}
use Rattle.nc_tables.specs.Policy.{verdict}
use Rattle.nc_policy.proofs.Tables.{config_at}
use Rattle.nc_policy.proofs.policies.Policies.apply.Goals as goal

pub judge-requires-clause-indexed : goal.judge-requires-clause-indexed
judge-requires-clause-indexed c = c.tables.ensures c.args.network.now (config_view c.index-routers-place.result) c.requires.policies
    (config_at c.args.network.now c.routers.result.now c.args.router.0 c.index-routers-place.result c.routers.ensures.routers c.requires.router c.index-routers-place.is)

pub judge-requires-clause-formed : goal.judge-requires-clause-formed
judge-requires-clause-formed c = all_in IsWellFormed c.args.network.now c.routers.ensures.valid.each (config_view c.index-routers-place.result) (in_by_get c.args.network.now c.args.router.0 (config_view c.index-routers-place.result)
    (config_at c.args.network.now c.routers.result.now c.args.router.0 c.index-routers-place.result c.routers.ensures.routers c.requires.router c.index-routers-place.is))

pub returns : goal.returns
returns c = λ other at.
    let config = config_view c.index-routers-place.result in
    let here : slice_get c.args.network.now c.args.router.0 ≡ Some config =
    config_at c.args.network.now c.routers.result.now c.args.router.0 c.index-routers-place.result c.routers.ensures.routers c.requires.router c.index-routers-place.is in
    let one : Some config ≡ Some other = sym here ∙ at in
    let same : config ≡ other = cc in
    c.in_ok-verdict.ensures ∙ ap (λ (r : ConfigView). verdict r c.args.map.now c.args.route.now) same
