use Rattle.std.proofs.Common.{map}
use Rattle.nc_graph.specs.Nodes.{node_flow}
use Rattle.nc_marks.proofs.ReachLemmas.{reached-first, flags-of}
use Rattle.nc_marks.proofs.reach.flag_reached.Goals as goal

pub returns-clause-tested : goal.returns-clause-tested
returns-clause-tested g c = flags-of c.args.tested.now c.args.reached.now c.flag_nodes.new.flags c.descend.new.reached c.flag_nodes.ensures.flags c.descend.ensures.kept

pub returns-clause-within : goal.returns-clause-within
returns-clause-within g c = λ e. c.descend.ensures.within e (map (λ p. p.0) c.args.tested.now)
    (reached-first (node_flow c.args.graph.now) e c.args.tested.now c.args.reached.now c.flag_nodes.new.flags c.requires.lowered c.flag_nodes.ensures.flags)
