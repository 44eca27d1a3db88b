use Rattle.std.proofs.Common.{◌<◌, length, map}
use Rattle.std.proofs.lemmas.List.Elements.{All-map}
use Rattle.nc_marks.proofs.MarkLemmas.{marks-are}
use Rattle.nc_marks.proofs.evaluation.marks.Goals as goal

pub returns : goal.returns
returns g c = rw c.new.ensures (marks-are c.args.graph.now c.reach.ensures.graph (map (λ p. p.0) c.args.tested.now)
    (All-map (λ i. i < length c.args.graph.now.facts) (λ p. p.0) c.args.tested.now c.requires) c.args.elements _ c.in_ok-strong.ensures.len c.in_ok-strong.ensures.strong (λ e lt no. c.in_ok-some.ensures.some e lt))
