use Rattle.nc_formula.proofs.LawLemmas.{meaning-carries, meaning-strong}
use Rattle.nc_formula.proofs.laws.diagrams_are_of_facts.Goals as goal

pub returns-clause-carries : goal.returns-clause-carries
returns-clause-carries g c = λ flow law n is m nodes table are i r found f at. meaning-carries flow law n is m nodes table are i r found f at

pub returns-clause-strong : goal.returns-clause-strong
returns-clause-strong g c = λ flow law n is m nodes table are i r found f at. meaning-strong flow law n is m nodes table are i r found f at
