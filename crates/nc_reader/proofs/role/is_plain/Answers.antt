use Rattle.std.proofs.Common.{sym, ◌∙◌}
use Rattle.nc_reader.proofs.RoleLemmas.{plain_line}
use Rattle.nc_reader.proofs.role.is_plain.Goals as goal

pub returns : goal.returns
returns c = λ e later.
    plain_line c.args.line.now c.in-Some.byte.now later c.in-Some.ensures.lookup.0 c.in-Some.ensures.lookup.1 (sym c.is_indented.ensures ∙ e) (sym c.is_open.ensures ∙ c.if-is_open.false)
