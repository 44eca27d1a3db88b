use Rattle.nc_graph.proofs.DerivationLaws.{Carries-is, carried-step}
use Rattle.nc_graph.proofs.laws.carrying_is_evaluation.Goals as goal

pub returns : goal.returns
returns g c = record { is = λ flow law. Carries-is flow law; through = λ flow law. carried-step flow law }
