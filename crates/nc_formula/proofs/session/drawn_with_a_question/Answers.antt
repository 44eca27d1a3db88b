use Rattle.nc_formula.proofs.SessionLemmas.{with-question}
use Rattle.nc_formula.proofs.session.drawn_with_a_question.Goals as goal

pub returns : goal.returns
returns g c = λ flow asked i j n d table drawn. with-question flow asked n d table drawn i j
