use Rattle.std.proofs.Common.{◌∙◌, List, ap, cond, false}
use Rattle.std.proofs.lemmas.List.{take_all}
use Rattle.nc_graph.specs.declared.node.NodeId.{NodeId}
use Rattle.nc_marks.specs.Sets.{flag, has_node}
use Rattle.nc_marks.proofs.RaiseLemmas.{lowered-back}
use Rattle.nc_marks.proofs.raise.lower_nodes.Goals as goal

pub returns-clause-back : goal.returns-clause-back
returns-clause-back c = λ before r.
    lowered-back c.args.nodes.now before c.args.reached.now.items c.nodes.reached.items r c.nodes.invariant.len
    (λ i. c.nodes.invariant.flags i ∙ ap (λ (ps : List NodeId). cond (has_node ps i) false (flag c.args.reached.now.items i)) (take_all c.nodes.node-index c.args.nodes.now c.nodes-test.false))
