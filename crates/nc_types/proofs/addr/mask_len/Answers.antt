use Rattle.std.proofs.Common.{◌∙◌, sym, arith}
use Rattle.nc_types.proofs.Lengths.{passes, stops, nothing_below, none_below}
use Rattle.nc_types.proofs.addr.mask_len.Goals as goal

pub returns-then-mask_with-mask-clause-length : goal.returns-then-mask_with-mask-clause-length
returns-then-mask_with-mask-clause-length c =
    sym (stops c.lengths.len c.args.mask.0 c.lengths-test.true (sym c.if-mask_with-mask.true ∙ c.mask_with.ensures)) ∙ c.lengths.invariant.same

pub lengths-preserved : goal.lengths-preserved
lengths-preserved c = record {
  same = sym (passes c.lengths.len c.args.mask.0 c.lengths-test.true (λ same. c.if-mask_with-mask.false (c.mask_with.ensures ∙ sym same))) ∙ c.lengths.invariant.same;
  within = omega arith;
}

pub returns-clause-length : goal.returns-clause-length
returns-clause-length c = sym (nothing_below _ _ (omega arith)) ∙ c.lengths.invariant.same

pub returns-clause-none : goal.returns-clause-none
returns-clause-none c len within = none_below 33 c.args.mask.0 (sym c.lengths.invariant.same ∙ nothing_below _ _ (omega arith)) len (omega arith)
