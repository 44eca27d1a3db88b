use Rattle.nc_graph.proofs.DerivationLaws.{IsInSome-is, occurs-step}
use Rattle.nc_graph.proofs.laws.some_is_evaluation.Goals as goal

pub returns : goal.returns
returns g c = record { is = λ flow law. IsInSome-is flow law; through = λ flow law. occurs-step flow law }
