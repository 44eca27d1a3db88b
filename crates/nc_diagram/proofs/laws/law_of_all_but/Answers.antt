use Rattle.nc_diagram.proofs.AllButLemmas.{all_but_lacks}
use Rattle.nc_diagram.proofs.laws.law_of_all_but.Goals as goal

pub returns : goal.returns
returns c = all_but_lacks
