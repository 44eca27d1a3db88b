use Rattle.std.proofs.Common.{◌≡◌, ◌<◌, ◌∙◌, ℕ, map, sym, ap, subst}
use Rattle.nc_graph.specs.Nodes.{node_flow}
use Rattle.nc_suite.specs.Counts.{IsSpared, counted, mark_in, mark_for}
use Rattle.nc_suite.proofs.leaving.leave_out.Goals as goal

pub returns-else-spare-clause-spare : goal.returns-else-spare-clause-spare
returns-else-spare-clause-spare g c =
    let nodes = map (λ p. p.0) c.args.nodes.now in
    let same : (e : ℕ) → e < counted c.args.tally.now → mark_in c.touches-touches.result.now e ≡ mark_for (node_flow c.args.graph.now) nodes e
    = λ e lt. ap (λ ts. mark_in ts e) c.touches-touches.ensures.touches ∙ c.in_ok-list.ensures.marks e (subst (λ n. e < n) c.requires.elements lt) in (
      λ yes e lt. subst (IsSpared c.args.tally.now e) (same e lt) (c.spare_touches-spare.ensures.0 yes e lt),
      λ all. c.spare_touches-spare.ensures.1 (λ e lt. subst (IsSpared c.args.tally.now e) (sym (same e lt)) (all e lt)),
    )
