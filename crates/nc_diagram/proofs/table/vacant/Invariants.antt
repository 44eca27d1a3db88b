use Rattle.std.proofs.Common.{◌-◌, length}
use Rattle.nc_diagram.proofs.TableLemmas.{IsVacant}
use Rattle.nc_diagram.proofs.WayLemmas.{ComesTo}
use Rattle.nc_diagram.proofs.table.vacant.Given as goal

abbrev pub invariant-slots : goal.invariant-slots
invariant-slots l = ComesTo (IsVacant l.call l.slots) (length l.slots) (length l.slots - l._step) l.at
