use Rattle.std.proofs.Common.{slice_get, sym, ap, ◌∙◌}
use Rattle.nc_graph.proofs.NodeLemmas.{numbered-at}
use Rattle.nc_graph.proofs.graph.Graph.find.Goals as goal

pub returns-in-Some : goal.returns-in-Some
returns-in-Some g c =
    ap (λ n. slice_get n.facts c.in-Some.number) (sym c.self.view_is)
    ∙ numbered-at _ c.requires.exact c.self.inside.facts.keys c.args.fact.now c.in-Some.number (sym c.in-Some.ensures.index)
