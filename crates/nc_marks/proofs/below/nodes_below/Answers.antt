use Rattle.std.proofs.Common.{◌≡◌, ◌∙◌, [], map, length}
use Rattle.nc_graph.specs.Nodes.{node_flow}
use Rattle.nc_marks.proofs.BelowLemmas.{none-reached, leaves-below}
use Rattle.nc_marks.proofs.below.nodes_below.Goals as goal

pub returns-clause-leaves : goal.returns-clause-leaves
returns-clause-leaves g c =
    let n = c.args.graph.now in
    let flags = c.raise.new.reached.items in
    let long : length flags ≡ length n.facts = c.in_ok-raised.ensures.raises.len ∙ c.requires.len in
    leaves-below n c.len-nodes.ensures.graph (map (λ p. p.0) c.args.nodes.now) c.args.flags.now.items flags c.in_ok-raised.raised.items long c.requires.lowered
    c.in_ok-raised.ensures.raises (c.in_ok-raised.ensures.reached [] (none-reached (node_flow n) c.args.flags.now.items c.requires.lowered))
