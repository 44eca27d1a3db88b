use Rattle.std.proofs.Common.{false}
use Rattle.nc_diagram.proofs.SetLemmas.{has-fixing-low, has-fixing-high}
use Rattle.nc_diagram.proofs.laws.law_of_fixing.Goals as goal

pub returns-clause-fixed : goal.returns-clause-fixed
returns-clause-fixed c = λ lowest s v h. has-fixing-low lowest s v false h

pub returns-clause-others : goal.returns-clause-others
returns-clause-others c = λ lowest s v h. has-fixing-high lowest s v h
