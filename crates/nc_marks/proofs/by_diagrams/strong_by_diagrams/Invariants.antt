use Rattle.std.proofs.Common.{◌≡◌, ◌<◌, ℕ, length, map, take}
use Rattle.std.specs.List.{list_any}
use Rattle.nc_formula.specs.Formulas.{AreFormulas, StillKnown}
use Rattle.nc_formula.specs.Parts.{IsBaseFrom, Gains}
use Rattle.nc_graph.specs.Derivation.{strong}
use Rattle.nc_graph.specs.Nodes.{node_flow}
use Rattle.nc_marks.specs.Sets.{flag}
use Rattle.nc_marks.proofs.by_diagrams.strong_by_diagrams.Given as goal

abbrev pub invariant-nodes : goal.invariant-nodes
invariant-nodes g l = record {
  long : length l.flags.items ≡ l.elements;
  strong : (e : ℕ) → e < l.elements → flag l.flags.items e ≡ list_any (λ p. strong (node_flow l.graph) e p.0) (take l.node-index l.tested);
  still : StillKnown l.fn.formulas l.formulas;
  formulas : AreFormulas (node_flow l.graph) l.store.nodes l.formulas;
  gains : Gains (IsBaseFrom (node_flow l.graph) (map (λ p. p.0) l.tested)) l.fn.store l.store;
}
