use Rattle.nc_formula.proofs.SessionLemmas.{with-nodes}
use Rattle.nc_formula.proofs.session.drawn_for_a_longer_graph.Goals as goal

pub returns : goal.returns
returns g c = λ flow asked old new is longer ext d table drawn. with-nodes flow asked old d table drawn new is longer ext
