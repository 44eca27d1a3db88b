use Rattle.std.proofs.Common.{◌≡◌, ◌<◌, ℕ, take}
use Rattle.nc_graph.specs.Nodes.{node_flow}
use Rattle.nc_marks.specs.Reach.{leaf_in}
use Rattle.nc_marks.specs.declared.mark.Mark.TheVariants.{Weak}
use Rattle.nc_suite.specs.Counts.{mark_in, marked_if, over}
use Rattle.nc_suite.proofs.listing.Listing.add_leaves.Given as goal

abbrev pub invariant-nodes : goal.invariant-nodes
invariant-nodes g l = record {
  width : l.self.width ≡ l.initial.self.width;
  marks : (e : ℕ) → e < l.initial.self.width → mark_in l.self.touches e
      ≡ over (mark_in l.initial.self.touches e) (marked_if (leaf_in (node_flow l.graph) e (take l.node-index l.nodes)) Weak);
}
