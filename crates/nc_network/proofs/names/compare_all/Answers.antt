use Rattle.std.proofs.Common.{◌+◌, ◌<◌, map, drop, length, Option, ap, ◌∙◌, arith}
use Rattle.nc_types.specs.Config.{config_view}
use Rattle.nc_types.specs.Joining.{Clash, numbered_from, same_name}
use Rattle.nc_network.specs.Steps.{merge, first_of_all}
use Rattle.nc_network.proofs.Clashes.{found-more}
use Rattle.nc_network.proofs.Walks.{numbered, numbered_at}
use Rattle.nc_network.proofs.names.compare_all.Goals as goal

pub later-preserved : goal.later-preserved
later-preserved c =
    let number = c.args.router + 1 + c.later.step in
    let next = c.args.router + 1 + (c.later.step + 1) in
    let routers = c.args.later.now in
    let other = c.index-later-step.result in
    let within : c.later.step < length routers = omega arith in
    let rest = numbered_from next (drop (c.later.step + 1) (map config_view routers)) in
    let make = same_name (numbered c.args.router c.args.config.now) in
    ap (λ (o : Option Clash). merge o (first_of_all make rest)) c.compare-found.ensures
    ∙ found-more make c.later.found (numbered number other) rest _ (numbered_at number next (omega arith) routers c.later.step other c.index-later-step.is within) ∙ c.later.invariant
