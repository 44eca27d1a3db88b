use Rattle.std.proofs.Common.{◌≡◌, ◌+◌, ◌<◌, List, map, drop, length, Option, sym, ap, ◌∙◌, arith}
use Rattle.std.proofs.lemmas.List.{drop-map}
use Rattle.nc_types.specs.Config.{ConfigView, config_view}
use Rattle.nc_types.specs.Joining.{Clash, earliest, with_later, numbered_from, same_name}
use Rattle.nc_network.specs.Steps.{merge, first_of_all}
use Rattle.nc_network.proofs.Clashes.{pairs-more}
use Rattle.nc_network.proofs.Walks.{numbered, numbered_at}
use Rattle.nc_network.proofs.names.name_clash.Goals as goal

pub routers-preserved : goal.routers-preserved
routers-preserved c =
    let router = c.routers.router in
    let routers = c.args.routers.now in
    let config = c.index-routers-router.result in
    let within : router < length routers = omega arith in
    let rest = numbered_from (router + 1) (drop (router + 1) (map config_view routers)) in
    let make = same_name (numbered router config) in
    let later : map config_view c.split_at.result.1.now ≡ drop (router + 1) (map config_view routers) = ap (map config_view) c.split_at.ensures.back ∙ sym (drop-map config_view (router + 1) routers) in
    ap (λ (o : Option Clash). merge o (earliest (with_later same_name rest))) (c.compare_all-found.ensures ∙ ap (λ (cs : List ConfigView). merge c.routers.found (first_of_all make (numbered_from (router + 1) cs))) later)
    ∙ pairs-more same_name c.routers.found (numbered router config) rest _ (numbered_at router (router + 1) (omega arith) routers router config c.index-routers-router.is within) ∙ c.routers.invariant
