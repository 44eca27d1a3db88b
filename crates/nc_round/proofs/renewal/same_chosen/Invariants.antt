use Rattle.std.proofs.Common.{◌≡◌, take}
use Rattle.nc_round.proofs.renewal.same_chosen.Given as goal

-- so far they are the same
abbrev pub invariant-candidates : goal.invariant-candidates
invariant-candidates l = take l.place l.a ≡ take l.place l.b
