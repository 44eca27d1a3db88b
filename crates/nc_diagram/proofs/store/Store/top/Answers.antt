use Rattle.std.proofs.Common.{arith}
use Rattle.nc_diagram.proofs.DiagramLemmas.{level-constant}
use Rattle.nc_diagram.proofs.store.Store.top.Goals as goal

pub returns-then-p-lt2 : goal.returns-then-p-lt2
returns-then-p-lt2 c = omega (arith, level-constant c.args.self.now.nodes c.args.p c.if-p-lt2.true, c.node.ensures.asks, c.node.ensures.narrow)

pub returns-then-q-lt2 : goal.returns-then-q-lt2
returns-then-q-lt2 c = omega (arith, level-constant c.args.self.now.nodes c.args.q c.if-q-lt2.true, c.node-then-q-lt2.ensures.asks, c.node-then-q-lt2.ensures.narrow)
