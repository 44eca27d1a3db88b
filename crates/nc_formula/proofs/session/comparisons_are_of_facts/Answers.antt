use Rattle.std.proofs.Common.{map}
use Rattle.nc_graph.specs.Nodes.{node_flow}
use Rattle.nc_formula.specs.Parts.{carrying_each}
use Rattle.nc_formula.proofs.CompareLemmas.{implies-same, greatest-same}
use Rattle.nc_formula.proofs.SessionLemmas.{each-fact}
use Rattle.nc_formula.proofs.session.comparisons_are_of_facts.Goals as goal

pub returns-clause-carrying : goal.returns-clause-carrying
returns-clause-carrying g c = λ flow law n is m ids facts are. each-fact flow law n is m ids facts are

pub returns-clause-implies : goal.returns-clause-implies
returns-clause-implies g c = λ flow law n is m first second left right lefts rights.
    implies-same (carrying_each (node_flow n) (map (λ p. p.0) first)) (carrying_each (node_flow n) (map (λ p. p.0) second)) (carrying_each flow left) (carrying_each flow right)
    (each-fact flow law n is m first left lefts) (each-fact flow law n is m second right rights)

pub returns-clause-greatest : goal.returns-clause-greatest
returns-clause-greatest g c = λ flow law n is m first second left right lefts rights s.
    greatest-same (carrying_each (node_flow n) (map (λ p. p.0) first)) (carrying_each (node_flow n) (map (λ p. p.0) second)) (carrying_each flow left) (carrying_each flow right)
    (each-fact flow law n is m first left lefts) (each-fact flow law n is m second right rights) s
