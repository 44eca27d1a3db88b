use Rattle.nc_read_policy.proofs.FrontLemmas.{front_prefix}
use Rattle.nc_read_policy.proofs.fronts.cut_prefix.Goals as goal

pub returns-clause-read : goal.returns-clause-read
returns-clause-read c =
    front_prefix _ _ _ _ _ _ _ _ _ _ _ c.in_ok-first.ensures.read c.in_ok-second.ensures.read c.in_ok-third.ensures.read c.in_ok-fourth.ensures.read c.in_ok-len.ensures.read
