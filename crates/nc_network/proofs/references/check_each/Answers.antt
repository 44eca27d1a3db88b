use Rattle.std.proofs.Common.{◌+◌, ◌<◌, List, drop, length, Option, ap, ◌∙◌, arith}
use Rattle.nc_types.specs.declared.config.Reference.{Reference}
use Rattle.nc_types.specs.Joining.{Clash, undefined_by}
use Rattle.nc_network.specs.Steps.{merge, first_of_all}
use Rattle.nc_network.proofs.Clashes.{found-more}
use Rattle.nc_types.proofs.Walks.{drop_read}
use Rattle.nc_network.proofs.references.check_each.Goals as goal

pub references-preserved : goal.references-preserved
references-preserved c =
    let items = c.args.references.now in
    let item = c.reference-item.result in
    let within : c.references.reference-index < length items = omega arith in
    let make : Reference → List Clash = undefined_by c.args.router c.args.names.now.keys in
    let rest = drop (c.references.reference-index + 1) items in
    ap (λ (o : Option Clash). merge o (first_of_all make rest)) c.check-found.ensures
    ∙ found-more make c.references.found item rest _ (drop_read items c.references.reference-index item c.reference-item.is within) ∙ c.references.invariant
