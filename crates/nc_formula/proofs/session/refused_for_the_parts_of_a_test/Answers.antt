use Rattle.nc_formula.proofs.SessionLemmas.{crowded-test}
use Rattle.nc_formula.proofs.session.refused_for_the_parts_of_a_test.Goals as goal

pub returns : goal.returns
returns g c = λ flow law n is m asked i facts at ids nodes old table drawn crowded.
    crowded-test flow law n is m asked i facts at ids nodes old table drawn crowded
