use Rattle.nc_formula.proofs.SessionLemmas.{compared}
use Rattle.nc_formula.proofs.session.drawn_by_a_comparison.Goals as goal

pub returns : goal.returns
returns g c = λ flow law n is m asked i j left right at next first second lefts rights old new table more drawn gained are.
    compared flow law n is m asked i j left right at next first second lefts rights old table drawn new more gained are
