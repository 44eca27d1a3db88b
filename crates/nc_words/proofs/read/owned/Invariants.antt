use Rattle.std.proofs.Common.{◌≡◌, map, take}
use Rattle.nc_words.specs.Words.{texts}
use Rattle.nc_words.proofs.read.owned.Given as goal

abbrev pub invariant-names : goal.invariant-names
invariant-names l = texts l.owned.items ≡ map (λ name. name.now) (take l.name-index l.names)
