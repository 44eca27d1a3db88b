use Rattle.std.proofs.Common.{◌≡◌, drop}
use Rattle.nc_types.specs.Joining.{undefined_by}
use Rattle.nc_network.specs.Steps.{merge, first_of_all}
use Rattle.nc_network.proofs.references.check_each.Given as goal

abbrev pub invariant-references : goal.invariant-references
invariant-references l =
    merge l.found (first_of_all (undefined_by l.router l.names.keys) (drop l.reference-index l.references)) ≡ merge l.fn.found (first_of_all (undefined_by l.router l.names.keys) l.references)
