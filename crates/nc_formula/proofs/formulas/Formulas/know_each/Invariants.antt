use Rattle.std.proofs.Common.{map}
use Rattle.nc_graph.specs.Nodes.{node_flow}
use Rattle.nc_graph.proofs.Weights.{weight}
use Rattle.nc_formula.specs.Parts.{IsBaseFrom, Gains}
use Rattle.nc_formula.specs.Formulas.{StillKnown, AreFormulas}
use Rattle.nc_formula.proofs.WalkLemmas.{IsMaking, steps}
use Rattle.nc_formula.proofs.formulas.Formulas.know_each.Given as goal

abbrev pub invariant-tasks : goal.invariant-tasks
invariant-tasks g l =
    let flow = node_flow l.graph in
    let roots = map (λ p. p.0) l.nodes in
    record {
      making : IsMaking flow roots l.self (steps flow l.tasks.items);
      still : StillKnown l.fn.self l.self;
      formulas : AreFormulas flow l.store.nodes l.self;
      gains : Gains (IsBaseFrom flow roots) l.fn.store l.store;
    }

abbrev pub decreases-tasks : goal.decreases-tasks
decreases-tasks g l = weight (node_flow l.graph) (steps (node_flow l.graph) l.tasks.items)
