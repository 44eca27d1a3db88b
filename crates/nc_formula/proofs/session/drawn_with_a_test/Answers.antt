use Rattle.nc_formula.proofs.SessionLemmas.{with-test}
use Rattle.nc_formula.proofs.session.drawn_with_a_test.Goals as goal

pub returns : goal.returns
returns g c = λ flow asked facts n d table drawn. with-test flow asked n d table drawn facts
