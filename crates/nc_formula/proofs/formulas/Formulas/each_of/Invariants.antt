use Rattle.std.proofs.Common.{take}
use Rattle.nc_diagram.specs.Diagrams.{Means}
use Rattle.nc_formula.specs.Formulas.{each_known, IsFirstEachKnown}
use Rattle.nc_formula.specs.Parts.{Gains}
use Rattle.nc_formula.proofs.formulas.Formulas.each_of.Given as goal

abbrev pub invariant-nodes : goal.invariant-nodes
invariant-nodes l = record {
  means : Means l.store l.all (each_known l.initial.store.nodes l.self (take l.node-index l.nodes));
  gains : Gains (IsFirstEachKnown l.initial.store.nodes l.self l.nodes) l.initial.store l.store;
}
