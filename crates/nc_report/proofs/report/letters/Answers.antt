use Rattle.std.proofs.Common.{◌+◌, refl, ap, arith}
use Rattle.std.proofs.lemmas.List.FromFn.{map-range_with_len_more}
use Rattle.nc_report.specs.Texts.{letter}
use Rattle.nc_report.specs.Sheets.{letter_at}
use Rattle.nc_report.proofs.report.letters.Goals as goal

-- the letter of one line more is that of its mark
pub lines-preserved : goal.lines-preserved
lines-preserved c =
    let one = c.letter.ensures.letter in
    let mark = ap letter c.of_line.ensures.mark in
    let more = map-range_with_len_more (λ k. letter_at c.args.network.now c.args.marks.now c.args.router.0 (k + 1)) 0 c.lines.line c.lines.line (omega arith) in
    rw (c.in_ok-push.ensures.items, c.lines.invariant, one, mark, more) refl
