use Rattle.std.proofs.Common.{refl, sym, subst, ◌∙◌, ◌<◌}
use Rattle.std.proofs.lemmas.List.Folds.{list_any_more}
use Rattle.nc_graph.specs.Nodes.{node_flow}
use Rattle.nc_marks.specs.declared.mark.Mark.TheVariants.{Weak}
use Rattle.nc_marks.specs.Reach.{is_leaf_of}
use Rattle.nc_suite.specs.Counts.{mark_in}
use Rattle.nc_suite.proofs.TouchLemmas.{over-none, marks-more}
use Rattle.nc_suite.proofs.listing.Listing.add_leaves.Goals as goal

pub nodes-init : goal.nodes-init
nodes-init g c = record { width = refl; marks = λ e lt. sym (over-none c.args.self.now.touches e) }

pub nodes-preserved : goal.nodes-preserved
nodes-preserved g c = record {
  width = c.in_ok-add_leaf.ensures.width ∙ c.nodes.invariant.width;
  marks = λ e lt. marks-more (mark_in c.args.self.now.touches e) (mark_in c.nodes.self.touches e) (mark_in c.add_leaf.new.self.touches e) Weak _ _ _ refl (c.nodes.invariant.marks e lt)
      (c.in_ok-add_leaf.ensures.marks e (subst (λ n. e < n) (sym c.nodes.invariant.width) lt))
      (list_any_more (λ p. is_leaf_of e ((node_flow c.args.graph.now).kind p.0)) c.args.nodes.now c.nodes.node-index _ c.nodes-test.true);
}
