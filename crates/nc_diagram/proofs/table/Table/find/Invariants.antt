use Rattle.std.proofs.Common.{◌<◌}
use Rattle.nc_diagram.proofs.table.Table.find.Given as goal

abbrev pub invariant-slots : goal.invariant-slots
invariant-slots l = l.at < l.count
