use Rattle.std.proofs.Common.{◌≤◌, ◌<◌, List, length, map, sym, subst, arith}
use Rattle.std.proofs.lemmas.List.{length-map}
use Rattle.std.specs.String.{string_bytes}
use Rattle.nc_types.specs.Config.{ConfigView, config_view}
use Rattle.nc_report.specs.Views.{file_view}
use Rattle.nc_load.specs.Limits.{most_routers}
use Rattle.nc_words.specs.Words.{texts}
use Rattle.nc_load.proofs.AllFiles.{too_many, fault_each, cause_each, fault_together, fine_together}
use Rattle.nc_load.specs.Loading.{AreBeside}
use Rattle.nc_load.proofs.Joined.{files_fit, files_short}
use Rattle.nc_load.proofs.loading.load.Goals as goal

pub returns-then-names-gt-ROUTER_LIMIT-clause-loaded : goal.returns-then-names-gt-ROUTER_LIMIT-clause-loaded
returns-then-names-gt-ROUTER_LIMIT-clause-loaded g c =
    let many : most_routers < length (texts c.args.names.now) = omega (arith, length-map c.args.names.now string_bytes, c.if-names-gt-ROUTER_LIMIT.true) in
    too_many c.args.rounds (texts c.args.names.now) (g.F.Files.files c.args.files.now) many

pub returns-in-Err-clause-loaded : goal.returns-in-Err-clause-loaded
returns-in-Err-clause-loaded g c =
    let few : length (texts c.args.names.now) ≤ most_routers = omega (arith, length-map c.args.names.now string_bytes, c.if-names-gt-ROUTER_LIMIT.false) in
    fault_each c.args.rounds (texts c.args.names.now) few (g.F.Files.files c.args.files.now) c.in-Err.fault c.in-Err.ensures.loaded

pub returns-in-Err-clause-cause : goal.returns-in-Err-clause-cause
returns-in-Err-clause-cause g c =
    let few : length (texts c.args.names.now) ≤ most_routers = omega (arith, length-map c.args.names.now string_bytes, c.if-names-gt-ROUTER_LIMIT.false) in
    cause_each c.args.rounds (texts c.args.names.now) few (g.F.Files.files c.args.files.now) c.in-Err.fault _ _ c.in-Err.ensures.cause

pub returns-in-Ok-join_all-clause-loaded : goal.returns-in-Ok-join_all-clause-loaded
returns-in-Ok-join_all-clause-loaded g c =
    let names = texts c.args.names.now in
    let few : length names ≤ most_routers = omega (arith, length-map c.args.names.now string_bytes, c.if-names-gt-ROUTER_LIMIT.false) in
    let joined = c.in-Ok-join_all.ensures.joined names in
    fine_together c.args.rounds names few (g.F.Files.files c.args.files.now) (map config_view c.in-Ok.each.configs.items) c.in-Ok.ensures.loaded c.in-Ok-join_all.settled.state joined.0

pub returns-in-Err-join_all-clause-loaded : goal.returns-in-Err-join_all-clause-loaded
returns-in-Err-join_all-clause-loaded g c =
    let names = texts c.args.names.now in
    let few : length names ≤ most_routers = omega (arith, length-map c.args.names.now string_bytes, c.if-names-gt-ROUTER_LIMIT.false) in
    fault_together c.args.rounds names few (g.F.Files.files c.args.files.now) (map config_view c.in-Ok.each.configs.items) c.in-Ok.ensures.loaded c.in-Err-join_all.fault (c.in-Err-join_all.ensures.joined names)

pub returns-in-Ok-join_all-clause-fit : goal.returns-in-Ok-join_all-clause-fit
returns-in-Ok-join_all-clause-fit g c =
    let files = map file_view c.in-Ok.each.files.items in
    let same = (c.in-Ok-join_all.ensures.joined (texts c.args.names.now)).1 in
    files_fit files c.in-Ok-join_all.settled.state.routers (subst (λ (routers : List ConfigView). AreBeside files routers) (sym same) c.in-Ok.ensures.beside)

pub returns-in-Ok-join_all-clause-short : goal.returns-in-Ok-join_all-clause-short
returns-in-Ok-join_all-clause-short g c = files_short c.in-Ok.each.files.items c.in-Ok.each.configs.items c.in-Ok.ensures.beside c.in-Ok.ensures.read
