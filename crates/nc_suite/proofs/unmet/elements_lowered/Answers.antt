use Rattle.std.proofs.Common.{◌≡◌, true, map, subst, arith}
use Rattle.nc_marks.specs.Sets.{flag}
use Rattle.nc_suite.specs.Dead.{Misses}
use Rattle.nc_suite.proofs.DeadLemmas.{misses-more}
use Rattle.nc_suite.proofs.unmet.elements_lowered.Goals as goal

pub elements-preserved : goal.elements-preserved
elements-preserved c = record {
  within = omega (arith, c.elements-test.true, c.elements.auto.element-end);
  misses = misses-more (flag c.args.flags.now) c.elements.element _ _ c.in_ok-list_element.ensures c.elements.invariant.misses;
}

pub returns : goal.returns
returns c =
    let last : c.elements.element ≡ c.args.elements = omega (arith, c.elements-test.false, c.elements.auto.element-end, c.elements.invariant.within) in
    subst (λ k. Misses (λ e. flag c.args.flags.now e ≡ true) k (map (λ id. id.0) c.elements.listed.items)) last c.elements.invariant.misses
