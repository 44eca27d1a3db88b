use Rattle.std.proofs.Common.{◌≡◌, drop}
use Rattle.std.specs.List.{flat_map}
use Rattle.std.specs.Option.{option_to_list}
use Rattle.nc_types.specs.Joining.{undefined_by, interface_by}
use Rattle.nc_network.specs.Steps.{merge, first_of_all}
use Rattle.nc_network.proofs.references.check_statics.Given as goal

abbrev pub invariant-statics : goal.invariant-statics
invariant-statics l =
    merge l.found (first_of_all (λ s. flat_map (undefined_by l.router l.names.keys) (option_to_list (interface_by s.via))) (drop l.route-index l.statics)) ≡ merge l.fn.found (first_of_all (λ s. flat_map (undefined_by l.router l.names.keys) (option_to_list (interface_by s.via))) l.statics)
