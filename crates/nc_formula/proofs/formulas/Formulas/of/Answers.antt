use Rattle.std.proofs.Common.{◌≡◌, Err, ap, arith}
use Rattle.nc_diagram.specs.declared.fault.StoreFault.TheVariants.{Full}
use Rattle.nc_formula.proofs.formulas.Formulas.of.Goals as goal

pub reference-requires : goal.reference-requires
reference-requires g c =
    let known = c.in-Ok.ensures.known 0 c.args.node (omega arith) in
    (known.0, known.1, (c.know_each.ensures.formulas.each c.args.node.0 known.0 known.1).belongs)

pub returns-in-Ok-clause-means : goal.returns-in-Ok-clause-means
returns-in-Ok-clause-means g c =
    let is = c.know_each.ensures.formulas.each c.args.node.0 c.reference.result c.reference.ensures in
    record { belongs = is.belongs; means = is.means }

pub returns-in-Ok-clause-still : goal.returns-in-Ok-clause-still
returns-in-Ok-clause-still g c = c.know_each.ensures.still

pub returns-in-Ok-clause-formulas : goal.returns-in-Ok-clause-formulas
returns-in-Ok-clause-formulas g c = c.know_each.ensures.formulas

pub returns-in-Ok-clause-gains : goal.returns-in-Ok-clause-gains
returns-in-Ok-clause-gains g c = c.know_each.ensures.gains

pub returns-in-Err-clause-still : goal.returns-in-Err-clause-still
returns-in-Err-clause-still g c = c.know_each.ensures.still

pub returns-in-Err-clause-formulas : goal.returns-in-Err-clause-formulas
returns-in-Err-clause-formulas g c = c.know_each.ensures.formulas

pub returns-in-Err-clause-gains : goal.returns-in-Err-clause-gains
returns-in-Err-clause-gains g c = c.know_each.ensures.gains

pub returns-in-Err-clause-full : goal.returns-in-Err-clause-full
returns-in-Err-clause-full g c = λ full.
    let is : c.in-Err.fault ≡ Full = cc in
    c.in-Err.ensures.full (ap Err is)
