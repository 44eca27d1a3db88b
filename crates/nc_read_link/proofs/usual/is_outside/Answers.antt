use Rattle.std.proofs.Common.{sym, ◌∙◌}
use Rattle.nc_read_link.proofs.UsualLemmas.{outside_by_byte}
use Rattle.nc_read_link.proofs.usual.is_outside.Goals as goal

pub returns : goal.returns
returns c = λ e.
    outside_by_byte c.args.line.now c.in-Some.byte.now c.in-Some.ensures.lookup.0 c.in-Some.ensures.lookup.1 (sym c.is_indented.ensures ∙ e) (sym c.may_begin.ensures ∙ c.if-may_begin.false)
