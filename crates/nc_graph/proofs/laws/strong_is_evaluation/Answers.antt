use Rattle.nc_graph.proofs.DerivationLaws.{IsStrong-carried, IsStrong-is, strong-step}
use Rattle.nc_graph.proofs.laws.strong_is_evaluation.Goals as goal

pub returns : goal.returns
returns g c = record {
  without = λ flow law. IsStrong-carried flow law;
  is = λ flow law. IsStrong-is flow law;
  through = λ flow law. strong-step flow law;
}
