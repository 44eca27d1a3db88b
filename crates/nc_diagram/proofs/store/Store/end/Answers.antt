use Rattle.std.proofs.Common.{true, false, sym, ap, subst, arith, if◌then◌else◌}
use Rattle.std.proofs.lemmas.Bool.{ne_eqb, eq-eqb}
use Rattle.nc_diagram.specs.Counter.{IsEndAt}
use Rattle.nc_diagram.proofs.Canonicity.{end_of}
use Rattle.nc_diagram.proofs.PairLemmas.{IsEndAt-ends, IsEndAt-constant}
use Rattle.nc_diagram.proofs.store.Store.end.Goals as goal

pub returns-then-place-lt2 : goal.returns-then-place-lt2
returns-then-place-lt2 c =
    IsEndAt-constant c.args.self.now.nodes c.checked.ensures c.args.place c.if-place-lt2.true c.args.variable (omega (arith, c.ranges.variable)) c.args.side

pub returns-then-node-variable : goal.returns-then-node-variable
returns-then-node-variable c =
    let n = c.node-node.result in
    IsEndAt-ends c.args.self.now.nodes c.checked.ensures c.args.place n c.node-node.ensures c.args.variable (omega (arith, c.requires.above, c.node-node.ensures.asks)) c.args.side c.args.place
    (sym (ap (λ b. if b then end_of n c.args.side else c.args.place) (ne_eqb n.variable c.args.variable c.if-node-variable.true)))

pub returns-then-side : goal.returns-then-side
returns-then-side c =
    let n = c.node-node.result in
    subst (λ b. IsEndAt c.args.self.now.nodes c.args.place c.args.variable b n.high) (sym c.if-side.true)
    (IsEndAt-ends c.args.self.now.nodes c.checked.ensures c.args.place n c.node-node.ensures c.args.variable (omega (arith, c.requires.above, c.node-node.ensures.asks)) true n.high
    (sym (ap (λ b. if b then n.high else c.args.place) (eq-eqb n.variable c.args.variable c.if-node-variable.false))))

pub returns-else-side : goal.returns-else-side
returns-else-side c =
    let n = c.node-node.result in
    subst (λ b. IsEndAt c.args.self.now.nodes c.args.place c.args.variable b n.low) (sym c.if-side.false)
    (IsEndAt-ends c.args.self.now.nodes c.checked.ensures c.args.place n c.node-node.ensures c.args.variable (omega (arith, c.requires.above, c.node-node.ensures.asks)) false n.low
    (sym (ap (λ b. if b then n.low else c.args.place) (eq-eqb n.variable c.args.variable c.if-node-variable.false))))
