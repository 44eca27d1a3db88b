use Rattle.std.proofs.Common.{◌+◌, ◌<◌, List, drop, length, Option, ap, ◌∙◌, arith}
use Rattle.std.specs.List.{flat_map}
use Rattle.std.specs.Option.{option_to_list}
use Rattle.nc_types.specs.declared.config.StaticRoute.{StaticRoute}
use Rattle.nc_types.specs.Joining.{Clash, undefined_by, interface_by}
use Rattle.nc_network.specs.Steps.{merge, first_of_all}
use Rattle.nc_network.proofs.Clashes.{found-more}
use Rattle.nc_types.proofs.Walks.{drop_read}
use Rattle.nc_network.proofs.references.check_statics.Goals as goal

pub statics-preserved : goal.statics-preserved
statics-preserved c =
    let items = c.args.statics.now in
    let item = c.route-item.result in
    let within : c.statics.route-index < length items = omega arith in
    let make : StaticRoute → List Clash = λ s. flat_map (undefined_by c.args.router c.args.names.now.keys) (option_to_list (interface_by s.via)) in
    let rest = drop (c.statics.route-index + 1) items in
    ap (λ (o : Option Clash). merge o (first_of_all make rest)) c.check_via-found.ensures
    ∙ found-more make c.statics.found item rest _ (drop_read items c.statics.route-index item c.route-item.is within) ∙ c.statics.invariant
