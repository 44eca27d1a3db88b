use Rattle.std.proofs.Common.{◌+◌, ◌-◌, ◌∙◌, ◌&&◌, List, not, nat_eq, ap, sym, subst, arith}
use Rattle.nc_report.specs.Texts.{Sheet, letter}
use Rattle.nc_report.specs.Shown.{AreFreshBut}
use Rattle.nc_report.proofs.Showing.{fresh-put}
use Rattle.nc_report.proofs.shown.Shown.put_line.Goals as goal

pub returns : goal.returns
returns c = λ due fresh.
    subst (λ (sheets : List Sheet). AreFreshBut c.args.network.now c.args.marks.now (λ r k. due r k && not (nat_eq r c.args.router.0 && nat_eq (k + 1) c.args.line)) sheets) (sym c.put.ensures)
    (fresh-put c.args.network.now c.args.marks.now due c.args.self.now c.args.router.0 c.args.line (c.args.line - 1) c.letter-letter.result (omega (arith, c.if-line-eq0.false))
    (c.letter-letter.ensures.letter ∙ ap letter c.of_line.ensures.mark) fresh)
