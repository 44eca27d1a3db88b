use Rattle.std.proofs.Common.{◌≡◌, ◌≤◌, ℕ, Some, None, length, ap, sym, ◌∙◌, arith}
use Rattle.std.specs.Prelude.{slice_get}
use Rattle.std.specs.Option.{option_map}
use Rattle.nc_types.specs.Config.{config_view}
use Rattle.nc_types.specs.WellFormed.{IsWellFormed}
use Rattle.nc_types.proofs.Members.{all_in, in_by_get}
use Rattle.nc_policy.specs.Views.{map_names}
use Rattle.nc_policy.specs.declared.policies.MapPlace.{MapPlace}
use Rattle.nc_policy.proofs.Deciding.{named_at}
use Rattle.nc_policy.proofs.Few.{few_clauses}
use Rattle.nc_policy.proofs.Keeping.{map_stands}
use Rattle.nc_policy.proofs.Sweeping.{within}
use Rattle.nc_policy.proofs.Tables.{config_at}
use Rattle.nc_policy.proofs.policies.Policies.map_place.Goals as goal

pub first_clause-requires : goal.first_clause-requires
first_clause-requires c = record {
  indexed =
      c.tables.ensures c.args.network.now (config_view c.index-routers-number.result) c.requires.policies
      (config_at c.args.network.now c.routers.result.now c.args.router.0 c.index-routers-number.result c.routers.ensures.routers c.requires.router c.index-routers-number.is);
}

pub returns-in_err-first : goal.returns-in_err-first
returns-in_err-first c = λ other at.
    let config = config_view c.index-routers-number.result in
    let here : slice_get c.args.network.now c.args.router.0 ≡ Some config =
    config_at c.args.network.now c.routers.result.now c.args.router.0 c.index-routers-number.result c.routers.ensures.routers c.requires.router c.index-routers-number.is in
    let one : Some config ≡ Some other = sym here ∙ at in
    let same : config ≡ other = cc in
    ap (option_map (λ (p : MapPlace). p.0)) c.from_residual.ensures
    ∙ map_stands config other c.args.map.now c.in-Some.reference c.bytes.result.now None same c.in-Some.is c.bytes.ensures c.in_err-first.ensures

pub place_number-requires : goal.place_number-requires
place_number-requires c =
    let config = c.index-routers-number.result in
    let here : slice_get c.args.network.now c.args.router.0 ≡ Some (config_view config) =
    config_at c.args.network.now c.routers.result.now c.args.router.0 config c.routers.ensures.routers c.requires.router c.index-routers-number.is in
    let formed = all_in IsWellFormed c.args.network.now c.routers.ensures.valid.each (config_view config) (in_by_get c.args.network.now c.args.router.0 (config_view config) here) in
    let few : length config.clauses.items ≤ config.line_count = few_clauses config formed in
    let name = c.bytes.result.now in
    let inside = within config c.in_ok-first.first name (named_at name (map_names (config_view config)) 0 c.in_ok-first.first (sym c.in_ok-first.ensures)) in
    omega arith

pub returns : goal.returns
returns c = λ other at.
    let config = config_view c.index-routers-number.result in
    let here : slice_get c.args.network.now c.args.router.0 ≡ Some config =
    config_at c.args.network.now c.routers.result.now c.args.router.0 c.index-routers-number.result c.routers.ensures.routers c.requires.router c.index-routers-number.is in
    let one : Some config ≡ Some other = sym here ∙ at in
    let same : config ≡ other = cc in
    ap (λ (n : ℕ). Some n) c.place_number.ensures
    ∙ map_stands config other c.args.map.now c.in-Some.reference c.bytes.result.now (Some c.in_ok-first.first) same c.in-Some.is c.bytes.ensures c.in_ok-first.ensures
