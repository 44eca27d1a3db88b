use Rattle.std.proofs.Common.{◌≡◌, ◌++◌, ◌∷◌, length}
use Rattle.nc_lines.specs.Lines.{words_of}
use Rattle.nc_command.proofs.reading.read_names.Given as goal

abbrev pub invariant-names : goal.invariant-names
invariant-names l = l.names.items ++ words_of l.left ≡ l.first ∷ words_of l.rest

abbrev pub decreases-names : goal.decreases-names
decreases-names l = length l.left
