use Rattle.nc_graph.proofs.ClosureLaws.{IsClosure-exists, IsClosure-length, ReachesMoreThan-closure}
use Rattle.nc_graph.proofs.laws.closures_have_one_length.Goals as goal

pub returns : goal.returns
returns g c = record {
  exists = λ flow law. IsClosure-exists flow law;
  length = λ flow law. IsClosure-length flow law;
  more = λ flow law. ReachesMoreThan-closure flow law;
}
