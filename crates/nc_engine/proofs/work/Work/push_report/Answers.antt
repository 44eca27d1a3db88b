use Rattle.std.proofs.Common.{◌++◌, ◌∙◌, Bool, List, ℕ, sym, ap, append_assoc}
use Rattle.std.specs.List.{flat_map}
use Rattle.nc_report.specs.Texts.{report_by, sheet_of, totals_of}
use Rattle.nc_engine.proofs.Replying.{reported}
use Rattle.nc_engine.proofs.work.Work.push_report.Goals as goal

pub returns-then-not-self : goal.returns-then-not-self
returns-then-not-self c =
    let w = c.args.self.now in
    reported w c.requires c.marks_are_kept.ensures c.args.out.now.items c.push_totals.new.out.items
    (c.in_ok-push_totals.ensures ∙ ap (λ (l : Bool). c.args.out.now.items ++ report_by l w.shown) (sym c.if-not-self.true))

-- the lines are copied
pub returns-then-lines-lt-LENT_FROM : goal.returns-then-lines-lt-LENT_FROM
returns-then-lines-lt-LENT_FROM c =
    let w = c.args.self.now in
    reported w c.requires c.marks_are_kept.ensures c.args.out.now.items c.push_report.new.out.items
    (c.in_ok-push_report.ensures ∙ ap (λ (l : Bool). c.args.out.now.items ++ report_by l w.shown) (sym c.if-not-self.false))

-- they are lent
pub returns : goal.returns
returns c =
    let w = c.args.self.now in
    let before = c.args.out.now.items in
    let lines = flat_map sheet_of w.shown in
    reported w c.requires c.marks_are_kept.ensures before (c.push_totals-2.new.out.items ++ lines)
    (ap (λ (l : List ℕ). l ++ lines) c.in_ok-push_totals-2.ensures ∙ append_assoc before (totals_of w.shown) lines
    ∙ ap (λ (l : Bool). before ++ report_by l w.shown) (sym c.if-not-self.false))
