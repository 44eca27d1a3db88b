use Rattle.std.proofs.Common.{List, [], subst, arith}
use Rattle.nc_graph.specs.declared.node.NodeId.{NodeId}
use Rattle.nc_graph.specs.Nodes.{node_flow}
use Rattle.nc_marks.specs.Reach.{Raises}
use Rattle.nc_marks.proofs.RaiseLemmas.{all-raised, raises-trans, open-first, reached-all}
use Rattle.nc_marks.proofs.raise.raise_all.Goals as goal

pub spread-requires-clause-flagged : goal.spread-requires-clause-flagged
spread-requires-clause-flagged g c =
    let a = c.args.reached.now.items in
    let mid = c.raise_nodes.new.reached.items in
    let ys = c.raise_nodes.new.raised.items in
    all-raised [] ys a mid (subst (λ (xs : List NodeId). Raises xs ys a mid) c.requires.none c.in_ok-raise_nodes.ensures.raises) (λ k d lt. absurd (omega arith))

pub returns-in_err-spread-clause-raises : goal.returns-in_err-spread-clause-raises
returns-in_err-spread-clause-raises g c =
    let a = c.args.reached.now.items in
    let mid = c.raise_nodes.new.reached.items in
    let ys = c.raise_nodes.new.raised.items in
    raises-trans _ _ _ _ _ _ (subst (λ (xs : List NodeId). Raises xs ys a mid) c.requires.none c.in_ok-raise_nodes.ensures.raises) c.in_err-spread.ensures.raises

pub returns-clause-raises : goal.returns-clause-raises
returns-clause-raises g c =
    let a = c.args.reached.now.items in
    let mid = c.raise_nodes.new.reached.items in
    let ys = c.raise_nodes.new.raised.items in
    raises-trans _ _ _ _ _ _ (subst (λ (xs : List NodeId). Raises xs ys a mid) c.requires.none c.in_ok-raise_nodes.ensures.raises) c.in_ok-spread.ensures.raises

pub returns-clause-reached : goal.returns-clause-reached
returns-clause-reached g c = λ before are.
    let flow = node_flow c.args.graph.now in
    let a = c.args.reached.now.items in
    let mid = c.raise_nodes.new.reached.items in
    let ys = c.raise_nodes.new.raised.items in
    let first = subst (λ (xs : List NodeId). Raises xs ys a mid) c.requires.none c.in_ok-raise_nodes.ensures.raises in
    reached-all flow before c.args.nodes.now ys c.spread.new.raised.items a mid c.spread.new.reached.items are first c.in_ok-raise_nodes.ensures.flags
    c.in_ok-spread.ensures.raises (c.in_ok-spread.ensures.closed (open-first flow before ys a mid are first)) c.in_ok-spread.ensures.within
