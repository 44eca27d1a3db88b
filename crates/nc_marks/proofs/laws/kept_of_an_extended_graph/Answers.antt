use Rattle.nc_marks.proofs.LawLemmas.{kept-extended}
use Rattle.nc_marks.proofs.laws.kept_of_an_extended_graph.Goals as goal

pub returns : goal.returns
returns g c = λ old new is longer ext. kept-extended old new is longer ext
