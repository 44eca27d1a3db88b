use Rattle.std.proofs.Common.{ℕ, ◌+◌, List, ◌∷◌, refl, ap, ◌∙◌, arith}
use Rattle.nc_read_policy.proofs.FrontLemmas.{one_digit, two_digits, three_digits}
use Rattle.nc_read_policy.proofs.fronts.cut_octet.Goals as goal

pub returns-in-Some-clause-read : goal.returns-in-Some-clause-read
returns-in-Some-clause-read c =
    let one = c.in_ok-first in
    one_digit 255 _ _ one.first (one.ensures.read ∙ ap (λ (bs : List ℕ). (one.first + 48) ∷ bs) c.in-Some.ensures) one.ensures.within (omega (arith, one.ensures.within))

pub returns-in-Some-behind_mark-clause-read : goal.returns-in-Some-behind_mark-clause-read
returns-in-Some-behind_mark-clause-read c =
    let one = c.in_ok-first in
    let two = c.in_ok-second in
    two_digits 255 _ _ _ one.first two.second _ one.ensures.read (two.ensures.read ∙ ap (λ (bs : List ℕ). (two.second + 48) ∷ bs) c.in-Some-behind_mark.ensures)
    one.ensures.within two.ensures.within c.if-first-eq0.false refl (omega (arith, one.ensures.within, two.ensures.within))

pub returns-clause-read : goal.returns-clause-read
returns-clause-read c =
    let one = c.in_ok-first in
    let two = c.in_ok-second in
    let three = c.in_ok-third in
    three_digits 255 _ _ _ _ one.first two.second three.third _ one.ensures.read two.ensures.read (three.ensures.read ∙ ap (λ (bs : List ℕ). (three.third + 48) ∷ bs) c.in_ok-behind.ensures)
    one.ensures.within two.ensures.within three.ensures.within c.if-first-eq0.false refl c.if-octet-gt255.false
