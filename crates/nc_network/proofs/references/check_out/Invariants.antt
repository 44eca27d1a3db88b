use Rattle.std.proofs.Common.{◌≡◌, drop}
use Rattle.std.specs.List.{flat_map}
use Rattle.std.specs.Option.{option_to_list}
use Rattle.nc_types.specs.Joining.{undefined_by}
use Rattle.nc_network.specs.Steps.{merge, first_of_all}
use Rattle.nc_network.proofs.references.check_out.Given as goal

abbrev pub invariant-neighbors : goal.invariant-neighbors
invariant-neighbors l =
    merge l.found (first_of_all (λ n. flat_map (undefined_by l.router l.names.keys) (option_to_list n.map_out)) (drop l.neighbor-index l.neighbors)) ≡ merge l.fn.found (first_of_all (λ n. flat_map (undefined_by l.router l.names.keys) (option_to_list n.map_out)) l.neighbors)
