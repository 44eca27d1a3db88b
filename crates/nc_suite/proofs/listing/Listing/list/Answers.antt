use Rattle.std.proofs.Common.{◌<◌, ◌∙◌, List, ap, sym, subst}
use Rattle.nc_graph.specs.Nodes.{node_flow}
use Rattle.nc_graph.specs.declared.node.NodeId.{NodeId}
use Rattle.nc_marks.specs.Reach.{leaf_in}
use Rattle.nc_suite.specs.Counts.{mark_in}
use Rattle.nc_suite.proofs.ListedLemmas.{listed-mark, strong-kept}
use Rattle.nc_suite.proofs.listing.Listing.list.Goals as goal

pub returns-clause-marks : goal.returns-clause-marks
returns-clause-marks g c = λ e lt.
    let wide = ap (λ l. l.width) c.clear.ensures in
    listed-mark _ _ _ _ _ _ _
    (ap (λ l. mark_in l.touches e) c.clear.ensures)
    (c.in_ok-add_strong.ensures.marks e (subst (λ n. e < n) (sym wide) lt))
    (c.in_ok-add_leaves.ensures.marks e (subst (λ n. e < n) (sym (c.in_ok-add_strong.ensures.width ∙ wide)) lt))
    (strong-kept (node_flow c.args.graph.now) _ c.requires.kept.0 c.args.self.now.width c.args.marks.now c.requires.kept.1 c.args.nodes.now c.requires.valid e lt)
    (ap (λ (ps : List NodeId). leaf_in (node_flow c.args.graph.now) e ps) c.deref.ensures.value ∙ c.in_ok-below.ensures.leaves e)
