use Rattle.std.proofs.Common.{◌++◌, arith, subst, List, ℕ}
use Rattle.std.proofs.lemmas.List.{take_all}
use Rattle.nc_cut.specs.Cuts.{IsFirstFree}
use Rattle.nc_cut.proofs.FirstLemmas.{listed_more}
use Rattle.nc_cut.proofs.first.first_free.Goals as goal

pub variables-preserved : goal.variables-preserved
variables-preserved c = λ listed is.
    listed_more c.args.free.now listed c.args.variables.now c.variables.variable-index _ c.lower-lowest.result c.variables-test.true
    (c.lower-lowest.ensures _ (c.variables.invariant listed is))

pub returns : goal.returns
returns c = λ listed is.
    subst (λ (l : List ℕ). IsFirstFree c.args.free.now (listed ++ l) c.variables.lowest) (take_all c.variables.variable-index c.args.variables.now (omega (arith, c.variables-test.false)))
    (c.variables.invariant listed is)
