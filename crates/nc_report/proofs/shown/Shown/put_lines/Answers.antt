use Rattle.std.proofs.Common.{◌+◌, ◌&&◌, ℕ, Bool, not, nat_eq, take}
use Rattle.std.proofs.lemmas.List.Folds.{list_any_more}
use Rattle.nc_marks.specs.Sets.{has}
use Rattle.nc_report.proofs.Showing.{fresh-more, lines-more}
use Rattle.nc_report.proofs.shown.Shown.put_lines.Goals as goal

pub lines-preserved : goal.lines-preserved
lines-preserved c = λ due fresh.
    let lines = c.args.lines.now in
    let at = c.lines.line-index in
    let before : ℕ → ℕ → Bool = λ r k. due r k && not (nat_eq r c.args.router.0 && has (take at lines) (k + 1)) in
    fresh-more c.args.network.now c.args.marks.now _ _ c.put_line.new.self
    (λ r k h. lines-more (due r k) (nat_eq r c.args.router.0) (has (take at lines) (k + 1)) _ (has (take (at + 1) lines) (k + 1)) (list_any_more (nat_eq (k + 1)) lines at 0 c.lines-test.true) h)
    (c.put_line.ensures before (c.lines.invariant due fresh))
