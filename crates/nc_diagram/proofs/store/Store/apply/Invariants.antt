use Rattle.nc_diagram.specs.Operations.{joint}
use Rattle.nc_diagram.specs.Table.{AreRight}
use Rattle.nc_diagram.proofs.ApplyLemmas.{IsUnderway, work_left}
use Rattle.nc_diagram.proofs.store.Store.apply.Given as goal

abbrev pub invariant-combine : goal.invariant-combine
invariant-combine l =
    IsUnderway l.operator (joint l.operator l.fn.self.nodes l.fn.pair) l.fn.self l.self l.frames.items l.focus
    × AreRight l.self.nodes l.operator l.known.slots.items

abbrev pub decreases-combine : goal.decreases-combine
decreases-combine l = work_left l.frames.items l.focus
