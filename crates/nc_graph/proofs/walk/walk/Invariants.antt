use Rattle.std.proofs.Common.{◌≡◌}
use Rattle.nc_graph.proofs.StackLemmas.{steps, AreCounted}
use Rattle.nc_graph.proofs.WalkSteps.{Walk}
use Rattle.nc_graph.proofs.Weights.{weight}
use Rattle.nc_graph.proofs.walk.walk.Given as goal

abbrev pub invariant-walking : goal.invariant-walking
invariant-walking g l =
    let flow = g.I.Inference.flow l.fn.rules in
    record {
      same : g.I.Inference.flow l.rules ≡ flow;
      basis : g.I.Inference.basis l.rules ≡ g.I.Inference.basis l.fn.rules;
      counts : AreCounted flow l.tasks;
      walk : Walk flow l.fn.graph l.fn.facts (g.I.Inference.asked l.fn.rules) l.graph l.nodes.items (steps flow l.tasks) l.found (g.I.Inference.asked l.rules);
    }

abbrev pub decreases-walking : goal.decreases-walking
decreases-walking g l = weight (g.I.Inference.flow l.fn.rules) (steps (g.I.Inference.flow l.fn.rules) l.tasks)
