use Rattle.std.proofs.Common.{◌≡◌, length}
use Rattle.nc_lines.specs.Lines.{words_of}
use Rattle.nc_read_link.specs.Statics.{is_conditional}
use Rattle.nc_read_link.proofs.options.is_conditional.Given as goal

abbrev pub invariant-options : goal.invariant-options
invariant-options l = is_conditional (words_of l.rest) ≡ is_conditional (words_of l.text)

abbrev pub decreases-options : goal.decreases-options
decreases-options l = length l.rest
