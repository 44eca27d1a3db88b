use Rattle.std.proofs.lemmas.List.Folds.{list_any_more}
use Rattle.nc_graph.specs.Nodes.{node_flow}
use Rattle.nc_marks.specs.Reach.{is_leaf_of}
use Rattle.nc_marks.proofs.SetLemmas.{lists-more}
use Rattle.nc_marks.proofs.reach.list_leaves.Goals as goal

pub nodes-preserved : goal.nodes-preserved
nodes-preserved g c = lists-more _ _ _ _ _ _ _ (λ e. list_any_more (λ p. is_leaf_of e ((node_flow c.args.graph.now).kind p.0)) c.args.nodes.now c.nodes.node-index _ c.nodes-test.true)
    c.nodes.invariant c.in_ok-list_leaf.ensures
