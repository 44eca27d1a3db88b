use Rattle.nc_formula.proofs.SessionLemmas.{drawn-test}
use Rattle.nc_formula.proofs.session.drawn_by_a_test.Goals as goal

pub returns : goal.returns
returns g c = λ flow law n is m asked i facts at ids nodes old new table more drawn gained are.
    drawn-test flow law n is m asked i facts at ids nodes old table drawn new more gained are
