use Rattle.nc_marks.proofs.LawLemmas.{marks-of-facts}
use Rattle.nc_marks.proofs.laws.marks_of_nodes_are_of_facts.Goals as goal

pub returns : goal.returns
returns g c = λ flow law n is m ids facts are. marks-of-facts flow law n is m ids facts are
