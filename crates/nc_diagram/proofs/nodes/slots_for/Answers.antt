use Rattle.std.proofs.Common.{◌≤◌, length, arith, subst}
use Rattle.std.proofs.lemmas.List.{take_all}
use Rattle.nc_diagram.specs.Index.{AreFor}
use Rattle.nc_diagram.proofs.nodes.slots_for.Goals as goal

pub returns-clause-are : goal.returns-clause-are
returns-clause-are c =
    let nodes = c.args.nodes.now in
    let all : length nodes ≤ c.nodes.index = omega (arith, c.nodes-test.false) in
    subst (AreFor c.nodes.slots.items) (take_all c.nodes.index nodes all) c.nodes.invariant.0
