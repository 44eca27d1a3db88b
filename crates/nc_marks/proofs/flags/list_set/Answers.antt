use Rattle.std.proofs.Common.{nat_eq}
use Rattle.std.proofs.lemmas.List.Folds.{list_any_more}
use Rattle.nc_marks.proofs.SetLemmas.{lists-more}
use Rattle.nc_marks.proofs.flags.list_set.Goals as goal

pub elements-preserved : goal.elements-preserved
elements-preserved c = lists-more _ _ _ _ _ _ _ (λ e. list_any_more (nat_eq e) c.args.set.now c.elements.element-index 0 c.elements-test.true) c.elements.invariant c.in_ok-list_lowered.ensures
