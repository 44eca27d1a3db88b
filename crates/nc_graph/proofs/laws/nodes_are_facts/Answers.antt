use Rattle.nc_graph.proofs.NodeLaws.{Carries-node, IsStrong-node, IsInSome-node}
use Rattle.nc_graph.proofs.laws.nodes_are_facts.Goals as goal

pub returns : goal.returns
returns g c = record {
  carries = λ flow law n is m. Carries-node flow law n is m;
  strong = λ flow law n is m. IsStrong-node flow law n is m;
  some = λ flow law n is m. IsInSome-node flow law n is m;
}
