use Rattle.std.proofs.Common.{sym, ap, ◌∙◌, subst}
use Rattle.nc_graph.specs.Nodes.{IsGraph, first_nodes}
use Rattle.nc_graph.proofs.NodeLemmas.{IsGraph-first_nodes, same_nodes}
use Rattle.nc_graph.proofs.graph.Graph.cut.Goals as goal

pub invariant_of-self : goal.invariant_of-self
invariant_of-self g c =
    subst IsGraph (sym (same_nodes c.self.inside.limit c.truncate.ensures.keys c.truncate-2.ensures.items c.truncate-3.ensures))
    (IsGraph-first_nodes _ c.self.invariant c.args.len)

pub returns : goal.returns
returns g c =
    same_nodes c.self.inside.limit c.truncate.ensures.keys c.truncate-2.ensures.items c.truncate-3.ensures
    ∙ ap (first_nodes c.args.len) c.self.view_is
