use Rattle.nc_formula.proofs.LawLemmas.{formulas-extended}
use Rattle.nc_formula.proofs.laws.formulas_of_an_extended_graph.Goals as goal

pub returns : goal.returns
returns g c = λ old new is longer ext. formulas-extended old new is longer ext
