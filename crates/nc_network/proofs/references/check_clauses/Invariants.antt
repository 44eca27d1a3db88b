use Rattle.std.proofs.Common.{◌≡◌, map, drop}
use Rattle.std.specs.List.{flat_map}
use Rattle.nc_types.specs.Config.{clause_view}
use Rattle.nc_types.specs.Joining.{undefined_by}
use Rattle.nc_network.specs.Steps.{merge, first_of_all, lists_in}
use Rattle.nc_network.proofs.references.check_clauses.Given as goal

abbrev pub invariant-clauses : goal.invariant-clauses
invariant-clauses l =
    merge l.found (first_of_all (λ k. flat_map (undefined_by l.router l.names.keys) (lists_in l.kind k)) (drop l.clause-index (map clause_view l.clauses)))
    ≡ merge l.fn.found (first_of_all (λ k. flat_map (undefined_by l.router l.names.keys) (lists_in l.kind k)) (map clause_view l.clauses))
