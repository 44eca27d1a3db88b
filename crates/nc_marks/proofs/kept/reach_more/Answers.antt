use Rattle.std.proofs.Common.{◌||◌, ℕ, List, sym, ap, ◌∙◌}
use Rattle.nc_graph.specs.declared.node.NodeId.{NodeId}
use Rattle.nc_graph.specs.Nodes.{node_flow}
use Rattle.nc_marks.specs.Reach.{leaf_in}
use Rattle.nc_marks.specs.Sets.{flag, has_node, in_some}
use Rattle.nc_marks.proofs.kept.reach_more.Goals as goal

pub returns-in-Ok-clause-raised : goal.returns-in-Ok-clause-raised
returns-in-Ok-clause-raised g c =
    let raises = c.in_ok-raised.ensures.raises in
    λ i. raises.each i ∙ ap (λ (ps : List NodeId). has_node ps i || flag c.args.nodes.now.reached.items i) (sym raises.next_is)

pub returns-in-Ok-clause-len : goal.returns-in-Ok-clause-len
returns-in-Ok-clause-len g c = c.in_ok-raised.ensures.raises.len

pub returns-in-Ok-clause-some : goal.returns-in-Ok-clause-some
returns-in-Ok-clause-some g c = λ e lt other low.
    ap (λ (ps : List NodeId). leaf_in (node_flow c.args.graph.now) e ps) (sym c.deref.ensures.value) ∙ c.in-Ok.ensures.some e lt other low

pub returns-in-Ok-clause-strong : goal.returns-in-Ok-clause-strong
returns-in-Ok-clause-strong g c = λ e lt other low.
    ap (λ (ps : List ℕ). in_some c.args.nodes.now.sets ps c.args.tested.now e) (sym c.deref-2.ensures.value) ∙ c.in-Ok.ensures.strong e lt other low
