use Rattle.std.proofs.Common.{sym, subst, Some, nat_eq, nat_lt}
use Rattle.nc_marks.specs.Marks.{mark_of}
use Rattle.nc_suite.specs.Counts.{Adds, marked_if}
use Rattle.nc_suite.proofs.CountLemmas.{adds-other, adds-one, sum-below}
use Rattle.nc_suite.proofs.tally.Tally.take.Goals as goal

pub elements-preserved : goal.elements-preserved
elements-preserved c =
    let k = c.elements.element in
    adds-other (λ e. marked_if (nat_lt e k) (mark_of c.args.marks.now (Some e))) (λ e. marked_if (nat_eq e k) (mark_of c.args.marks.now (Some k))) _ c.lower.new.self c.elements.self c.args.self.now
    (sum-below (λ e. mark_of c.args.marks.now (Some e)) k)
    (subst (λ m. Adds (λ e. marked_if (nat_eq e k) m) c.lower.new.self c.elements.self) c.of_element.ensures.mark
    (adds-one c.lower.new.self c.elements.self k c.of_element.result (sym c.lower.ensures.elements) c.lower.ensures.strong c.lower.ensures.covered
    (λ e ne. (sym (c.lower.ensures.others e ne).0, sym (c.lower.ensures.others e ne).1)))) c.elements.invariant
