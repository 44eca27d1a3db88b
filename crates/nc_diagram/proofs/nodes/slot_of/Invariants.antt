use Rattle.std.proofs.Common.{◌-◌, length}
use Rattle.nc_diagram.proofs.SlotLemmas.{Has}
use Rattle.nc_diagram.proofs.WayLemmas.{ComesTo}
use Rattle.nc_diagram.proofs.nodes.slot_of.Given as goal

abbrev pub invariant-slots : goal.invariant-slots
invariant-slots l = ComesTo (Has l.slots l.number) (length l.slots) (length l.slots - l._step) l.at
