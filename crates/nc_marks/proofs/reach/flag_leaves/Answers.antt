use Rattle.std.proofs.Common.{◌≡◌, ◌<◌, length, subst, sym, arith}
use Rattle.nc_graph.specs.Nodes.{node_flow}
use Rattle.nc_marks.specs.Sets.{flag}
use Rattle.nc_marks.specs.Reach.{TellsLeaf}
use Rattle.nc_marks.proofs.ReachLemmas.{tells-none, tells-more, tells-same}
use Rattle.nc_marks.proofs.reach.flag_leaves.Goals.{then-reached-number, else-reached-number}
use Rattle.nc_marks.proofs.reach.flag_leaves.Goals as goal

pub nodes-init : goal.nodes-init
nodes-init g c = λ e lt. tells-none (node_flow c.args.graph.now) c.args.reached.now e (flag c.args.flags.now e) (c.requires.lowered e lt)

pub nodes-preserved : goal.nodes-preserved
nodes-preserved g c = elim c.if-reached-number.branch [
  | then-reached-number w ↦ rw w.flags-is (λ e lt. tells-more c.args.graph.now c.len-number-end.ensures.graph c.args.reached.now c.nodes.number e (flag c.nodes.flags e) (flag w.flag_leaf.new.flags e) w.if-reached-number.true
      (w.flag_leaf.ensures.flags e (subst (λ m. e < m) (sym c.nodes.auto.flags) lt)) (c.nodes.invariant e lt))
  | else-reached-number w ↦ rw w.flags-is (λ e lt. tells-same c.args.graph.now c.len-number-end.ensures.graph c.args.reached.now c.nodes.number e (flag c.nodes.flags e) w.if-reached-number.false (c.nodes.invariant e lt))
]

pub returns-clause-leaves : goal.returns-clause-leaves
returns-clause-leaves g c =
    let high : c.nodes.number ≡ length c.args.graph.now.facts = omega (arith, c.nodes-test.false, c.nodes.auto.number-end, c.len-number-end.ensures.len) in
    λ e lt. subst (λ n. TellsLeaf (node_flow c.args.graph.now) c.args.reached.now n e (flag c.nodes.flags e)) high (c.nodes.invariant e lt)
