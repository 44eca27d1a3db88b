use Rattle.std.proofs.Common.{◌≡◌, ◌<◌, ℕ, IfSome, length, map, subst}
use Rattle.std.proofs.lemmas.List.Elements.{All-map}
use Rattle.nc_graph.specs.Nodes.{node_flow}
use Rattle.nc_marks.specs.Reach.{strong_in}
use Rattle.nc_marks.specs.Sets.{flag}
use Rattle.nc_marks.proofs.MarkLemmas.{marks-are}
use Rattle.nc_marks.proofs.by_diagrams.marks_by_diagrams.Goals as goal
use Rattle.nc_marks.proofs.by_diagrams.marks_by_diagrams.Goals.{in-Some, in-None+in_ok-strong-in-None}

pub returns-clause-marks : goal.returns-clause-marks
returns-clause-marks g c =
    let n = c.args.graph.now in
    let tops = map (λ p. p.0) c.args.tested.now in
    let long : length c.match-found-3.strong.items ≡ c.args.elements = elim c.match-found-3.branch [
      | in-Some w ↦ rw w.strong-is (subst (λ o. IfSome o (λ flags. length flags.items ≡ c.args.elements)) w.in-Some.is c.in_ok-found.ensures.len)
      | in-None+in_ok-strong-in-None w ↦ rw w.strong-is w.in_ok-strong-in-None.ensures.len
    ] in
    let strong : (e : ℕ) → e < c.args.elements → flag c.match-found-3.strong.items e ≡ strong_in (node_flow n) e tops = elim c.match-found-3.branch [
      | in-Some w ↦ rw w.strong-is (subst (λ o. IfSome o (λ flags. (e : ℕ) → e < c.args.elements → flag flags.items e ≡ strong_in (node_flow n) e tops)) w.in-Some.is c.in_ok-found.ensures.strong)
      | in-None+in_ok-strong-in-None w ↦ rw w.strong-is w.in_ok-strong-in-None.ensures.strong
    ] in
    rw c.new.ensures (marks-are n c.reach.ensures.graph tops (All-map (λ i. i < length n.facts) (λ p. p.0) c.args.tested.now c.requires.valid) c.args.elements _ long strong (λ e lt no. c.in_ok-some.ensures.some e lt))
