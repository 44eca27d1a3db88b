use Rattle.std.proofs.Common.{sym, ◌∙◌, arith}
use Rattle.nc_diagram.proofs.DiagramLemmas.{meaning-false, meaning-true}
use Rattle.nc_diagram.proofs.store.Store.constant.Goals as goal

pub returns-then-value : goal.returns-then-value
returns-then-value c =
    record { constant = record { belongs = omega arith; means = λ s. meaning-true c.args.self.now.nodes s ∙ sym c.if-value.true } }

pub returns-else-value : goal.returns-else-value
returns-else-value c =
    record { constant = record { belongs = omega arith; means = λ s. meaning-false c.args.self.now.nodes s ∙ sym c.if-value.false } }
