use Rattle.std.proofs.Common.{subst, Some, nat_eq, nat_lt}
use Rattle.nc_marks.specs.Marks.{mark_of}
use Rattle.nc_suite.specs.Counts.{Adds, marked_if}
use Rattle.nc_suite.proofs.CountLemmas.{adds-both, adds-one, sum-below}
use Rattle.nc_suite.proofs.tally.Tally.add.Goals as goal

pub elements-preserved : goal.elements-preserved
elements-preserved c =
    let k = c.elements.element in
    adds-both (λ e. marked_if (nat_lt e k) (mark_of c.args.marks.now (Some e))) (λ e. marked_if (nat_eq e k) (mark_of c.args.marks.now (Some k))) _ c.args.self.now c.elements.self c.raise.new.self
    (sum-below (λ e. mark_of c.args.marks.now (Some e)) k) c.elements.invariant
    (subst (λ m. Adds (λ e. marked_if (nat_eq e k) m) c.elements.self c.raise.new.self) c.of_element.ensures.mark
    (adds-one c.elements.self c.raise.new.self k c.of_element.result c.raise.ensures.elements c.raise.ensures.strong c.raise.ensures.covered c.raise.ensures.others))
