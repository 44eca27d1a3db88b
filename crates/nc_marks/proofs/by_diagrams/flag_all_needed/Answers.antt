use Rattle.std.proofs.Common.{◌∙◌, arith}
use Rattle.nc_marks.specs.Needed.{needed}
use Rattle.nc_marks.proofs.NeededLemmas.{flags-more}
use Rattle.nc_marks.proofs.by_diagrams.flag_all_needed.Goals as goal

pub elements-preserved : goal.elements-preserved
elements-preserved c =
    let k = c.elements.element in
    record {
      long = c.flag_needed.ensures.len ∙ c.elements.invariant.long;
      done = flags-more (needed c.args.store.now.nodes c.args.reference) c.args.flags.now c.elements.flags c.flag_needed.new.flags k c.elements.invariant.done c.elements.invariant.left c.flag_needed.ensures.here c.flag_needed.ensures.others;
      left = λ e late. c.flag_needed.ensures.others e (λ same. omega (arith, same, late)) ∙ c.elements.invariant.left e (omega (arith, late));
    }
