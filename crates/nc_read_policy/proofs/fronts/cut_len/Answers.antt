use Rattle.std.proofs.Common.{refl, arith}
use Rattle.nc_read_policy.proofs.FrontLemmas.{one_digit, two_digits}
use Rattle.nc_read_policy.proofs.fronts.cut_len.Goals as goal

pub returns-in_default-clause-read : goal.returns-in_default-clause-read
returns-in_default-clause-read c =
    let one = c.in_ok-first in
    one_digit 32 _ _ one.first one.ensures.read one.ensures.within (omega (arith, one.ensures.within))

pub returns-clause-read : goal.returns-clause-read
returns-clause-read c =
    let one = c.in_ok-first in
    two_digits 32 _ _ _ one.first c.in-Some.second _ one.ensures.read c.in-Some.ensures.read one.ensures.within c.in-Some.ensures.within c.if-first-eq0.false refl c.if-len-gt32.false
