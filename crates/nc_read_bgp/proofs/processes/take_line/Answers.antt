use Rattle.std.proofs.Common.{Option, sym, ap, ◌∙◌}
use Rattle.nc_types.specs.declared.fault.Fault.{Fault}
use Rattle.nc_read_bgp.specs.Steps.{finished}
use Rattle.nc_read_bgp.specs.Drafts.{process_fields}
use Rattle.nc_read_bgp.proofs.Finished.{passes_line, takes_statement, tells_line}
use Rattle.nc_read_bgp.proofs.processes.take_line.Goals as goal

pub returns-in-Outside : goal.returns-in-Outside
returns-in-Outside c = λ block. passes_line (process_fields c.args.draft.now) c.args.told _ block (sym c.in-Outside.ensures)

pub returns-in-Faulty : goal.returns-in-Faulty
returns-in-Faulty c = λ block.
    tells_line (process_fields c.args.draft.now) c.args.told (record { line = c.args.line; text = c.args.text.now }) _ block (sym c.in-Faulty.ensures)
    ∙ ap (λ (told : Option Fault). finished (process_fields c.args.draft.now) told block) (sym c.or.ensures)

pub returns-in_ok-take-in-Says : goal.returns-in_ok-take-in-Says
returns-in_ok-take-in-Says c = λ block. takes_statement (process_fields c.args.draft.now) _ c.args.told _ _ block (sym c.in-Says.ensures) c.in_ok-take-in-Says.ensures
