use Rattle.nc_types.specs.Network.{element_count}
use Rattle.nc_rules.specs.Rules.{flow_of}
use Rattle.nc_rules.specs.Seen.{state_of}
use Rattle.nc_engine.specs.Session.{live_in}
use Rattle.nc_engine.specs.Work.{tests_of}
use Rattle.nc_engine.proofs.work.Work.marks_are_kept.Goals as goal

pub returns : goal.returns
returns c =
    let w = c.args.self.now in
    let s = state_of w.rules in
    let marked = c.requires.marked in
    c.marks_of_nodes_are_of_facts.ensures (flow_of s) (c.rules_make_a_flow.ensures s c.requires.state) w.graph c.len-facts.ensures.graph marked.mirrors
    marked.nodes (live_in (tests_of w)) marked.are_nodes (element_count s.routers) w.marks.marks marked.kept.marks
