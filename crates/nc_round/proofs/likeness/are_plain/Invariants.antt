use Rattle.std.proofs.Common.{All, take}
use Rattle.nc_round.proofs.BegunAlone.{IsPlainAt}
use Rattle.nc_round.proofs.likeness.are_plain.Given as goal

-- each router so far tells no prefix from another
abbrev pub invariant-routers : goal.invariant-routers
invariant-routers l = All IsPlainAt (take l.config-index l.routers)
