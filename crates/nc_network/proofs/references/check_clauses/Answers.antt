use Rattle.std.proofs.Common.{◌+◌, ◌<◌, List, map, drop, length, Option, ap, ◌∙◌, arith}
use Rattle.std.specs.List.{flat_map}
use Rattle.nc_types.specs.declared.config.Reference.{Reference}
use Rattle.nc_types.specs.Config.{ClauseView, clause_view}
use Rattle.nc_types.specs.Joining.{Clash, undefined_by}
use Rattle.nc_network.specs.Steps.{merge, first_of_all, lists_in}
use Rattle.nc_network.proofs.Clashes.{found-more}
use Rattle.nc_types.proofs.Walks.{drop_view}
use Rattle.nc_network.proofs.references.check_clauses.Goals as goal

pub clauses-preserved : goal.clauses-preserved
clauses-preserved c =
    let items = c.args.clauses.now in
    let item = c.clause-item.result in
    let within : c.clauses.clause-index < length items = omega arith in
    let make : ClauseView → List Clash = λ k. flat_map (undefined_by c.args.router c.args.names.now.keys) (lists_in c.args.kind k) in
    let rest = drop (c.clauses.clause-index + 1) (map clause_view items) in
    ap (λ (o : Option Clash). merge o (first_of_all make rest)) (c.check_each-found.ensures ∙ ap (λ (rs : List Reference). merge c.clauses.found (first_of_all (undefined_by c.args.router c.args.names.now.keys) rs)) c.lists_of.ensures)
    ∙ found-more make c.clauses.found (clause_view item) rest _ (drop_view clause_view items c.clauses.clause-index item c.clause-item.is within) ∙ c.clauses.invariant
