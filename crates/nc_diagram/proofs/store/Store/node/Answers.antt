use Rattle.std.proofs.Common.{◌≡◌, ◌+◌, ◌-◌, reverse, Some, subst, arith}
use Rattle.nc_diagram.specs.Places.{node_at, IsNodeAt}
use Rattle.nc_diagram.proofs.DiagramLemmas.{IsNodeAt-found}
use Rattle.nc_diagram.proofs.StoreLemmas.{node_at-keys}
use Rattle.nc_diagram.proofs.store.Store.node.Goals as goal

pub returns : goal.returns
returns c =
    let place : (c.args.place - 2) + 2 ≡ c.args.place = omega arith in
    let nodes = reverse c.self.inside.nodes in
    let found : node_at nodes c.args.place ≡ Some c.at.result =
    subst (λ r. node_at nodes r ≡ Some c.at.result) place (node_at-keys c.self.inside.nodes (c.args.place - 2) c.at.result c.at.ensures) in
    subst (λ d. IsNodeAt d.nodes c.args.place c.at.result) c.self.view_is
    (IsNodeAt-found nodes c.self.invariant.0.reduced c.args.place c.at.result found)
