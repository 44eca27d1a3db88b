use Rattle.std.proofs.Common.{[]}
use Rattle.nc_graph.specs.Nodes.{node_flow}
use Rattle.bench.proofs.suites.kept_for.Goals as goal

pub returns : goal.returns
returns c = c.in_ok-add.ensures.kept 0 [] 4 (c.in_ok-kept.ensures.kept (node_flow c.args.graph.now))
