use Rattle.std.proofs.Common.{arith}
use Rattle.std.proofs.lemmas.Grind.{common_steps}
use Rattle.nc_marks.proofs.RaiseLemmas.{raises-trans}
use Rattle.nc_marks.proofs.raise.raise_nodes.Goals as goal

pub returns-in_err-raise_one-clause-raises : goal.returns-in_err-raise_one-clause-raises
returns-in_err-raise_one-clause-raises c = raises-trans _ _ _ _ _ _ c.nodes.invariant.raises c.in_err-raise_one.ensures.raises

pub nodes-preserved : goal.nodes-preserved
nodes-preserved c = record {
  raises = raises-trans _ _ _ _ _ _ c.nodes.invariant.raises c.in_ok-raise_one.ensures.raises;
  flags = λ i. grind (arith, common_steps, c.nodes.invariant.flags i, c.in_ok-raise_one.ensures.flags i);
}
