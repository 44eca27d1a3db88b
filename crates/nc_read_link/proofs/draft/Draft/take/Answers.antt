use Rattle.std.proofs.Common.{sym, ◌∙◌}
use Rattle.nc_read_link.proofs.DraftLemmas.{takes_header, passes_line, takes_statement, tells_line}
use Rattle.nc_read_link.proofs.draft.Draft.take.Goals as goal

pub returns-then-not-is_indented : goal.returns-then-not-is_indented
returns-then-not-is_indented c = λ name before block. takes_header name before c.args.self.now _ block (sym c.is_indented.ensures ∙ c.if-not-is_indented.true)

pub returns-in-Outside : goal.returns-in-Outside
returns-in-Outside c = λ name before block. passes_line name before c.args.self.now _ block (sym c.is_indented.ensures ∙ c.if-not-is_indented.false) (sym c.in-Outside.ensures)

pub returns-in-Faulty : goal.returns-in-Faulty
returns-in-Faulty c = λ name before block. tells_line name before c.args.self.now _ _ block (sym c.is_indented.ensures ∙ c.if-not-is_indented.false) (sym c.in-Faulty.ensures)

pub returns-in-Says : goal.returns-in-Says
returns-in-Says c = λ name before block. takes_statement name before c.args.self.now _ _ _ block (sym c.is_indented.ensures ∙ c.if-not-is_indented.false) (sym c.in-Says.ensures) c.apply.ensures.address c.apply.ensures.shut
