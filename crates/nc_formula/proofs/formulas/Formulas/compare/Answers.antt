use Rattle.std.proofs.Common.{◌≡◌, map, Err, inl, ap, sym, subst, ◌∙◌}
use Rattle.nc_graph.specs.Nodes.{node_flow}
use Rattle.nc_graph.proofs.Members.{of_all, all_from}
use Rattle.nc_diagram.specs.declared.fault.StoreFault.TheVariants.{Full}
use Rattle.nc_diagram.specs.Diagrams.{Diagrams, meaning}
use Rattle.nc_formula.specs.Parts.{carrying_each, IsBaseOfTest, IsBaseOfBoth, Gains}
use Rattle.nc_formula.specs.Formulas.{IsKnown, AreFormulas}
use Rattle.nc_formula.proofs.GainLemmas.{gains-wider}
use Rattle.nc_formula.proofs.CompareLemmas.{answer-same, first-crowded, both-gained, second-crowded}
use Rattle.nc_formula.proofs.formulas.Formulas.compare.Goals as goal

pub returns-in-Err-clause-full : goal.returns-in-Err-clause-full
returns-in-Err-clause-full g c = λ full.
    let is : c.in-Err.fault ≡ Full = cc in
    first-crowded (node_flow c.args.graph.now) (map (λ p. p.0) c.args.first.now) (map (λ p. p.0) c.args.second.now) c.args.store.now (c.in-Err.ensures.full (ap Err is))

pub returns-in-Err-of_each-clause-gains : goal.returns-in-Err-of_each-clause-gains
returns-in-Err-of_each-clause-gains g c =
    both-gained (node_flow c.args.graph.now) (map (λ p. p.0) c.args.first.now) (map (λ p. p.0) c.args.second.now) c.args.store.now c.of_each.new.store c.of_each.ensures.gains
    c.of_each-2.new.store c.of_each-2.ensures.gains

pub returns-in-Err-of_each-clause-full : goal.returns-in-Err-of_each-clause-full
returns-in-Err-of_each-clause-full g c = λ full.
    let is : c.in-Err-of_each.fault ≡ Full = cc in
    second-crowded (node_flow c.args.graph.now) (map (λ p. p.0) c.args.first.now) (map (λ p. p.0) c.args.second.now) c.args.store.now c.of_each.new.store c.of_each.ensures.gains
    (c.in-Err-of_each.ensures.full (ap Err is))

pub returns-in-Ok-counter-clause-answers : goal.returns-in-Ok-counter-clause-answers
returns-in-Ok-counter-clause-answers g c =
    let flow = node_flow c.args.graph.now in
    let nodes = c.of_each-2.new.store.nodes in
    let left = c.in-Ok.ensures.means in
    let right = c.in-Ok-of_each.ensures.means in
    answer-same (meaning nodes c.in-Ok.left) (meaning nodes c.in-Ok-of_each.right) (carrying_each flow (map (λ p. p.0) c.args.first.now)) (carrying_each flow (map (λ p. p.0) c.args.second.now))
    (λ s. (c.of_each-2.ensures.gains.unchanged c.in-Ok.left left.belongs).1 s ∙ left.means s) right.means (λ m. m.items) c.in-Ok-counter.missing c.in-Ok-counter.ensures.answers

pub returns-in-Ok-counter-clause-first : goal.returns-in-Ok-counter-clause-first
returns-in-Ok-counter-clause-first g c =
    let ids = c.args.first.now in
    all_from (λ p. IsKnown c.of_each-2.new.self p.0) ids (λ p within.
    let known = of_all (λ p. IsKnown c.of_each.new.self p.0) ids p c.in-Ok.ensures.known within in
    (known.0, c.of_each-2.ensures.still p.0 known.0 known.1))

pub returns-in-Ok-counter-clause-gains : goal.returns-in-Ok-counter-clause-gains
returns-in-Ok-counter-clause-gains g c =
    let flow = node_flow c.args.graph.now in
    let firsts = map (λ p. p.0) c.args.first.now in
    let seconds = map (λ p. p.0) c.args.second.now in
    subst (Gains (IsBaseOfBoth flow firsts seconds) c.args.store.now) (sym c.counter.ensures.unchanged)
    (both-gained flow firsts seconds c.args.store.now c.of_each.new.store c.of_each.ensures.gains c.of_each-2.new.store c.of_each-2.ensures.gains)

pub returns-in-Err-counter-clause-gains : goal.returns-in-Err-counter-clause-gains
returns-in-Err-counter-clause-gains g c =
    let flow = node_flow c.args.graph.now in
    let firsts = map (λ p. p.0) c.args.first.now in
    let seconds = map (λ p. p.0) c.args.second.now in
    subst (Gains (IsBaseOfBoth flow firsts seconds) c.args.store.now) (sym c.counter.ensures.unchanged)
    (both-gained flow firsts seconds c.args.store.now c.of_each.new.store c.of_each.ensures.gains c.of_each-2.new.store c.of_each-2.ensures.gains)

pub returns-in-Err-clause-gains : goal.returns-in-Err-clause-gains
returns-in-Err-clause-gains g c =
    gains-wider (IsBaseOfTest (node_flow c.args.graph.now) (map (λ p. p.0) c.args.first.now)) (IsBaseOfBoth (node_flow c.args.graph.now) (map (λ p. p.0) c.args.first.now) (map (λ p. p.0) c.args.second.now)) c.args.store.now c.of_each.new.store (λ b w. inl w) c.of_each.ensures.gains

pub returns-in-Err-of_each-clause-still : goal.returns-in-Err-of_each-clause-still
returns-in-Err-of_each-clause-still g c =
    λ i r e. c.of_each-2.ensures.still i r (c.of_each.ensures.still i r e)

pub returns-in-Ok-counter-clause-still : goal.returns-in-Ok-counter-clause-still
returns-in-Ok-counter-clause-still g c =
    λ i r e. c.of_each-2.ensures.still i r (c.of_each.ensures.still i r e)

pub returns-in-Err-counter-clause-still : goal.returns-in-Err-counter-clause-still
returns-in-Err-counter-clause-still g c =
    λ i r e. c.of_each-2.ensures.still i r (c.of_each.ensures.still i r e)

pub returns-in-Ok-counter-clause-second : goal.returns-in-Ok-counter-clause-second
returns-in-Ok-counter-clause-second g c =
    c.in-Ok-of_each.ensures.known

pub returns-in-Ok-counter-clause-formulas : goal.returns-in-Ok-counter-clause-formulas
returns-in-Ok-counter-clause-formulas g c =
    subst (λ (d : Diagrams). AreFormulas (node_flow c.args.graph.now) d.nodes c.of_each-2.new.self) (sym c.counter.ensures.unchanged) c.of_each-2.ensures.formulas

pub returns-in-Err-counter-clause-formulas : goal.returns-in-Err-counter-clause-formulas
returns-in-Err-counter-clause-formulas g c =
    subst (λ (d : Diagrams). AreFormulas (node_flow c.args.graph.now) d.nodes c.of_each-2.new.self) (sym c.counter.ensures.unchanged) c.of_each-2.ensures.formulas

pub returns-in-Err-counter-clause-full : goal.returns-in-Err-counter-clause-full
returns-in-Err-counter-clause-full g c =
    λ full. absurd (c.in-Err-counter.ensures.never_full full)

pub counter-requires-clause-left : goal.counter-requires-clause-left
counter-requires-clause-left g c =
    (c.of_each-2.ensures.gains.unchanged c.in-Ok.left c.in-Ok.ensures.means.belongs).0

pub counter-requires-clause-right : goal.counter-requires-clause-right
counter-requires-clause-right g c =
    c.in-Ok-of_each.ensures.means.belongs
