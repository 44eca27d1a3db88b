use Rattle.std.proofs.Common.{◌≡◌, drop}
use Rattle.nc_engine.specs.Cuts.{unknown_among}
use Rattle.nc_engine.proofs.cuts.unknown_among.Given as goal

-- the names so far are known
abbrev pub invariant-names : goal.invariant-names
invariant-names l = unknown_among l.network (drop l.name-index l.names) ≡ unknown_among l.network l.names
