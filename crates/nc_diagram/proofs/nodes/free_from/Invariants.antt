use Rattle.std.proofs.Common.{◌+◌, ◌-◌, length}
use Rattle.nc_diagram.specs.Index.{IsRun}
use Rattle.nc_diagram.proofs.SlotLemmas.{Has}
use Rattle.nc_diagram.proofs.WayLemmas.{ComesTo}
use Rattle.nc_diagram.proofs.nodes.free_from.Given as goal

abbrev pub invariant-slots : goal.invariant-slots
invariant-slots l =
    IsRun l.slots (length l.slots) (l.count + 1) l._step l.from l.at × ComesTo (Has l.slots 0) (length l.slots) (length l.slots - l._step) l.at
