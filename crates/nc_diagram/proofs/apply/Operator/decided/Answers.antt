use Rattle.std.proofs.Common.{sym, ◌∙◌, arith}
use Rattle.nc_diagram.proofs.PairLemmas.{IsDecided-same, IsDecided-absorbing_left, IsDecided-neutral_left, neutral-from_other}
use Rattle.nc_diagram.proofs.apply.Operator.decided.Goals as goal

pub returns-then-pair : goal.returns-then-pair
returns-then-pair c = IsDecided-same c.args.self c.args.pair c.if-pair.true

pub returns-then-pair-absorbing : goal.returns-then-pair-absorbing
returns-then-pair-absorbing c = IsDecided-absorbing_left c.args.self c.args.pair (c.if-pair-absorbing.true ∙ c.absorbing.ensures)

pub returns : goal.returns
returns c =
    IsDecided-neutral_left c.args.self c.args.pair
    (neutral-from_other c.args.self c.args.pair.left (omega (arith, c.if-pair-ge2.false)) (λ e. c.if-pair-absorbing.false (e ∙ sym c.absorbing.ensures)))
