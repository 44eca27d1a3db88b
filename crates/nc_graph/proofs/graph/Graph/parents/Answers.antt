use Rattle.std.proofs.Common.{◌≡◌, Some, slice_get, subst, arith}
use Rattle.std.proofs.lemmas.Grind.{common_steps}
use Rattle.nc_graph.specs.Nodes.{IsGraph}
use Rattle.nc_graph.proofs.NodeLemmas.{parents-lower}
use Rattle.nc_graph.proofs.graph.Graph.parents.Goals as goal

pub returns-clause-lower : goal.returns-clause-lower
returns-clause-lower g c =
    let at : slice_get c.args.self.now.parents c.args.node.0 ≡ Some c.get.result.now = grind (arith, common_steps) in
    parents-lower c.args.self.now (subst IsGraph c.self.view_is c.self.invariant) c.args.node.0 c.requires _ at
