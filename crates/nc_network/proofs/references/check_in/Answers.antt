use Rattle.std.proofs.Common.{◌+◌, ◌<◌, List, drop, length, Option, ap, ◌∙◌, arith}
use Rattle.std.specs.List.{flat_map}
use Rattle.std.specs.Option.{option_to_list}
use Rattle.nc_types.specs.declared.config.Neighbor.{Neighbor}
use Rattle.nc_types.specs.Joining.{Clash, undefined_by}
use Rattle.nc_network.specs.Steps.{merge, first_of_all}
use Rattle.nc_network.proofs.Clashes.{found-more}
use Rattle.nc_types.proofs.Walks.{drop_read}
use Rattle.nc_network.proofs.references.check_in.Goals as goal

pub neighbors-preserved : goal.neighbors-preserved
neighbors-preserved c =
    let items = c.args.neighbors.now in
    let item = c.neighbor-item.result in
    let within : c.neighbors.neighbor-index < length items = omega arith in
    let make : Neighbor → List Clash = λ n. flat_map (undefined_by c.args.router c.args.names.now.keys) (option_to_list n.map_in) in
    let rest = drop (c.neighbors.neighbor-index + 1) items in
    ap (λ (o : Option Clash). merge o (first_of_all make rest)) c.check_some-found.ensures
    ∙ found-more make c.neighbors.found item rest _ (drop_read items c.neighbors.neighbor-index item c.neighbor-item.is within) ∙ c.neighbors.invariant
