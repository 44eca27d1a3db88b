use Rattle.nc_formula.proofs.SessionLemmas.{crowded-parts}
use Rattle.nc_formula.proofs.session.refused_for_its_parts.Goals as goal

pub returns : goal.returns
returns g c = λ flow law n is m asked i j left right at next first second lefts rights old table drawn crowded.
    crowded-parts flow law n is m asked i j left right at next first second lefts rights old table drawn crowded
