use Rattle.std.proofs.Common.{◌+◌, ◌<◌, map, drop, length, Option, ap, ◌∙◌, arith}
use Rattle.nc_types.specs.Config.{config_view}
use Rattle.nc_types.specs.Joining.{Clash, numbered_from, undefined_in}
use Rattle.nc_network.specs.Steps.{merge, first_of_all}
use Rattle.nc_network.proofs.Clashes.{found-more}
use Rattle.nc_network.proofs.Walks.{numbered, numbered_at}
use Rattle.nc_network.proofs.references.reference_clash.Goals as goal

pub routers-preserved : goal.routers-preserved
routers-preserved c =
    let router = c.routers.router in
    let routers = c.args.routers.now in
    let config = c.index-routers-router.result in
    let within : router < length routers = omega arith in
    let rest = numbered_from (router + 1) (drop (router + 1) (map config_view routers)) in
    ap (λ (o : Option Clash). merge o (first_of_all undefined_in rest)) c.in_ok-found.ensures
    ∙ found-more undefined_in c.routers.found (numbered router config) rest _ (numbered_at router (router + 1) (omega arith) routers router config c.index-routers-router.is within) ∙ c.routers.invariant
