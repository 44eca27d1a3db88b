use Rattle.std.proofs.Common.{◌<◌, refl, subst, arith}
use Rattle.std.proofs.lemmas.Bool.{true≢false}
use Rattle.nc_diagram.specs.Places.{IsNodeAt}
use Rattle.nc_diagram.proofs.PartLemmas.{IsConstant-low, low-IsConstant, Splits-node}
use Rattle.nc_diagram.proofs.store.Store.split.Goals as goal

pub returns-then-r-lt2-clause-constant : goal.returns-then-r-lt2-clause-constant
returns-then-r-lt2-clause-constant c =
    let low : c.args.r < 2 = omega (arith, c.r.view_is, c.if-r-lt2.true) in
    (λ _. IsConstant-low c.args.self.now.nodes c.args.r low, λ _. refl)

pub returns-clause-constant : goal.returns-clause-constant
returns-clause-constant c = (
  λ e. absurd (true≢false e),
  λ constant. (let low : c.args.r < 2 = low-IsConstant c.args.self.now.nodes c.checked.ensures c.args.r c.requires constant in absurd (omega (arith, c.r.view_is, c.if-r-lt2.false))),
)

pub returns-clause-splits : goal.returns-clause-splits
returns-clause-splits c =
    let nodes = c.args.self.now.nodes in
    let node = c.node-node.result in
    Splits-node nodes c.checked.ensures c.args.r (record { variable = node.variable; low = node.low; high = node.high })
    (subst (λ r. IsNodeAt nodes r node) c.r.view_is c.node-node.ensures)
