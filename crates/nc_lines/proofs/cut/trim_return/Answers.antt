use Rattle.std.proofs.Common.{◌≡◌, length, sym, ◌∙◌, arith}
use Rattle.std.proofs.lemmas.Bool.{eqb-false}
use Rattle.nc_lines.proofs.LineLemmas.{without_return-cut, without_return-keeps}
use Rattle.nc_lines.proofs.cut.trim_return.Goals as goal

pub returns-then-line-last-ne13 : goal.returns-then-line-last-ne13
returns-then-line-last-ne13 c = sym (without_return-keeps c.args.line.now c.if-line-last-ne13.true)

pub returns : goal.returns
returns c =
    let none : length c.args.line.now ≡ 0 → ⊥ = eqb-false _ _ (sym c.is_empty.ensures ∙ c.if-is_empty.false) in
    c.split_at.ensures.front ∙ sym (without_return-cut c.args.line.now (omega arith) c.if-line-last-ne13.false)
