use Rattle.std.proofs.Common.{◌≤◌, subst, arith}
use Rattle.nc_diagram.specs.Index.{AreFor}
use Rattle.nc_diagram.proofs.SlotLemmas.{taken_same}
use Rattle.nc_diagram.proofs.nodes.clear_from.Goals as goal

pub returns : goal.returns
returns c =
    let most : c.nodes.index ≤ c.args.count = omega (arith, c.nodes-test.false) in
    subst (AreFor c.nodes.slots.items) (taken_same c.args.nodes.now c.args.count c.nodes.index most c.nodes.invariant.1) c.nodes.invariant.0
