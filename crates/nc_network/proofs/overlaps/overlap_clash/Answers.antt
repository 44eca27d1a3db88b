use Rattle.std.proofs.Common.{◌+◌, ◌<◌, List, map, drop, length, Option, ap, ◌∙◌, arith}
use Rattle.std.specs.List.{filter_map}
use Rattle.nc_types.specs.declared.config.Interface.{Interface}
use Rattle.nc_types.specs.Config.{config_view}
use Rattle.nc_types.specs.Joining.{Clash, Numbered, earliest, numbered_from, with_later, overlapping, used_by}
use Rattle.nc_network.specs.Steps.{merge, first_of_all, used_of}
use Rattle.nc_network.proofs.Clashes.{found-more}
use Rattle.nc_network.proofs.Walks.{numbered, numbered_at}
use Rattle.nc_network.proofs.overlaps.overlap_clash.Goals as goal

pub routers-preserved : goal.routers-preserved
routers-preserved c =
    let router = c.routers.router in
    let routers = c.args.routers.now in
    let config = c.index-routers-router.result in
    let within : router < length routers = omega arith in
    let rest = numbered_from (router + 1) (drop (router + 1) (map config_view routers)) in
    let make : Numbered → List Clash = λ n. with_later overlapping (used_by n) in
    ap (λ (o : Option Clash). merge o (first_of_all make rest)) (c.in_ok-found.ensures ∙ ap (λ (is : List Interface). merge c.routers.found (earliest (with_later overlapping (filter_map (used_of router) is)))) c.deref.ensures.value)
    ∙ found-more make c.routers.found (numbered router config) rest _ (numbered_at router (router + 1) (omega arith) routers router config c.index-routers-router.is within) ∙ c.routers.invariant
