use Rattle.nc_diagram.specs.Diagrams.{Belongs}
use Rattle.bench.specs.Held.{HoldsOn}
use Rattle.bench.proofs.diagrams.chain.Given as goal

abbrev pub invariant-loop-step : goal.invariant-loop-step
invariant-loop-step l = record { belongs : Belongs l.store.nodes l.all; kept : HoldsOn l.fn.store l.store }
