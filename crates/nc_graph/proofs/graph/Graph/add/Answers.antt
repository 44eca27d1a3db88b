use Rattle.std.proofs.Common.{arith}
use Rattle.nc_graph.proofs.ClosureLaws.{ReachesMoreThan-closure}
use Rattle.nc_graph.proofs.graph.Graph.add.Goals as goal

pub returns-in-Ok-clause-fits : goal.returns-in-Ok-clause-fits
returns-in-Ok-clause-fits g c = λ more.
    let rules = c.args.rules.now in
    let flow = g.I.Inference.flow rules in
    let long = (ReachesMoreThan-closure flow (g.met.I.Inference.lawful rules) c.args.self.now.limit _ _ c.in-Ok.ensures.closure).0 more in
    let fits = c.in-Ok.ensures.graph.fits in
    let same = c.in-Ok.ensures.extends.limit in
    omega arith
