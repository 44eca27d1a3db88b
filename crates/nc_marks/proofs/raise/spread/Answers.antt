use Rattle.std.proofs.Common.{◌≡◌, ◌<◌, ◌||◌, ◌∙◌, ℕ, ap, sym, arith, length, get_or}
use Rattle.std.proofs.lemmas.Grind.{common_steps}
use Rattle.std.proofs.lemmas.List.{length-append}
use Rattle.nc_graph.specs.Nodes.{node_flow}
use Rattle.nc_marks.specs.Reach.{lowered}
use Rattle.nc_marks.specs.Sets.{flag, has}
use Rattle.nc_graph.proofs.Parents.{parents-at}
use Rattle.nc_marks.proofs.GrowthLemmas.{raises-none, left-falls}
use Rattle.nc_marks.proofs.ReachLemmas.{has_node-map}
use Rattle.nc_marks.proofs.RaiseLemmas.{raises-trans, all-raised, open-more, within-more}
use Rattle.nc_marks.proofs.raise.spread.Goals as goal

pub returns-in_err-raise_nodes-clause-raises : goal.returns-in_err-raise_nodes-clause-raises
returns-in_err-raise_nodes-clause-raises g c = raises-trans _ _ _ _ _ _ c.waiting.invariant.raises c.in_err-raise_nodes.ensures.raises

pub waiting-preserved : goal.waiting-preserved
waiting-preserved g c =
    let n = c.args.graph.now in
    let is = c.len-nodes.ensures.graph in
    let xs = c.waiting.raised.items in
    let ys = c.raise_nodes.new.raised.items in
    let a = c.waiting.reached.items in
    let b = c.raise_nodes.new.reached.items in
    let node = c.index.result.now in
    let next = c.in_ok-raise_nodes.ensures.raises in
    let long : length a ≡ length n.facts = c.waiting.invariant.raises.len ∙ c.requires.len in
    let lt : c.waiting.at < length xs = omega (arith, c.waiting-test.true, c.len.ensures, c.waiting.raised.ok.0) in
    let at-is : get_or xs c.waiting.at node ≡ node = grind (arith, common_steps) in
    let made : (i : ℕ) → flag b i ≡ (has ((node_flow n).parents node.0) i || flag a i)
    = λ i. c.in_ok-raise_nodes.ensures.flags i ∙ ap (λ v. v || flag a i)
    (has_node-map c.parents.result.now i ∙ ap (λ ps. has ps i) (sym (parents-at n node.0 c.parents.result.now c.parents.ensures.parents))) in
    record {
      raises = raises-trans _ _ _ _ _ _ c.waiting.invariant.raises next;
      flagged = all-raised xs ys a b next c.waiting.invariant.flagged;
      few = omega (arith, ap length next.next_is, length-append xs next.more);
      opened = λ o. open-more n is xs ys c.waiting.at a b node long lt at-is c.waiting.invariant.flagged next made (c.waiting.invariant.opened o);
      within = λ e tops w. within-more n is xs ys c.waiting.at a b node long lt at-is c.waiting.invariant.flagged next made e tops (c.waiting.invariant.within e tops w);
    }

pub waiting-init : goal.waiting-init
waiting-init g c =
    record {
      raises = raises-none c.args.raised.now.items c.args.reached.now.items;
      flagged = c.requires.flagged;
      few = omega arith;
      opened = λ o. o;
      within = λ e tops w. w;
    }

pub waiting-smaller : goal.waiting-smaller
waiting-smaller g c =
    let lt : c.waiting.at < length c.waiting.raised.items = omega (arith, c.waiting-test.true, c.len.ensures, c.waiting.raised.ok.0) in
    left-falls (length c.raise_nodes.new.raised.items) (length c.waiting.raised.items) (lowered c.raise_nodes.new.reached.items) (lowered c.waiting.reached.items) c.waiting.at c.in_ok-raise_nodes.ensures.raises.count lt

pub returns-clause-raises : goal.returns-clause-raises
returns-clause-raises g c =
    c.waiting.invariant.raises

pub returns-clause-within : goal.returns-clause-within
returns-clause-within g c =
    c.waiting.invariant.within
