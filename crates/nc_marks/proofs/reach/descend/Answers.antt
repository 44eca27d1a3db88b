use Rattle.std.proofs.Common.{◌≡◌, ◌||◌, ℕ, ◌+◌, ◌<◌, ◌-◌, length, ap, ◌∙◌, subst, sym, arith}
use Rattle.nc_graph.specs.Nodes.{node_flow}
use Rattle.nc_marks.specs.Sets.{flag, has}
use Rattle.nc_marks.specs.Reach.{IsClosed}
use Rattle.nc_graph.proofs.Parents.{parents-at}
use Rattle.nc_marks.proofs.ReachLemmas.{has_node-map, flag-stays, closed-more, reached-more}
use Rattle.nc_marks.proofs.reach.descend.Goals as goal

pub nodes-preserved-then-reached-number : goal.nodes-preserved-then-reached-number
nodes-preserved-then-reached-number g c =
    let n = c.args.graph.now in
    let is = c.len-number.ensures.graph in
    let number = c.nodes.number - 1 in
    let lt : number < length n.facts = omega (arith, c.nodes.invariant.few, c.nodes-test.true) in
    let next : c.nodes.number ≡ number + 1 = omega (arith, c.nodes-test.true) in
    let made : (i : ℕ) → flag c.flag_nodes.new.flags i ≡ (has ((node_flow n).parents number) i || flag c.nodes.reached i)
    = λ i. c.flag_nodes.ensures.flags i ∙ ap (λ b. b || flag c.nodes.reached i)
    (has_node-map c.parents.result.now i ∙ ap (λ xs. has xs i) (sym (parents-at n number c.parents.result.now c.parents.ensures.parents))) in
    record {
      few = omega (arith, c.nodes.invariant.few);
      kept = λ i h. flag-stays n is number lt c.nodes.reached c.flag_nodes.new.flags c.if-reached-number.true made i (c.nodes.invariant.kept i h);
      closed = closed-more n is number lt c.nodes.reached c.flag_nodes.new.flags c.if-reached-number.true made (subst (λ low. IsClosed (node_flow n) low c.nodes.reached) next c.nodes.invariant.closed);
      within = λ e tops r. reached-more n is number lt c.nodes.reached c.flag_nodes.new.flags c.if-reached-number.true made e tops (c.nodes.invariant.within e tops r);
    }
