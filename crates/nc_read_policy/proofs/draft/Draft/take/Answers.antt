use Rattle.std.proofs.Common.{sym}
use Rattle.nc_read_policy.specs.Drafts.{part_of}
use Rattle.nc_read_policy.proofs.DraftLemmas.{passes_line, takes_statement, tells_line}
use Rattle.nc_read_policy.proofs.draft.Draft.take.Goals as goal

pub returns-in-Outside : goal.returns-in-Outside
returns-in-Outside c = λ block. passes_line (part_of c.args.self.now) _ block (sym c.in-Outside.ensures)

pub returns-in-Faulty : goal.returns-in-Faulty
returns-in-Faulty c = λ block. tells_line (part_of c.args.self.now) _ _ block (sym c.in-Faulty.ensures)

pub returns-in_ok-apply-in-Says : goal.returns-in_ok-apply-in-Says
returns-in_ok-apply-in-Says c = λ block. takes_statement (part_of c.args.self.now) _ _ _ block (sym c.in-Says.ensures) c.in_ok-apply-in-Says.ensures
