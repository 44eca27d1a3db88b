use Rattle.std.proofs.Common.{arith, ◌≡◌, ◌<◌, ◌==◌, ◌+◌, get_or, take, ◌∙◌}
use Rattle.std.proofs.lemmas.Grind.{common_steps}
use Rattle.std.proofs.lemmas.List.{length-set, get_or_default}
use Rattle.std.proofs.lemmas.List.Sums.{count_by-le-length}
use Rattle.nc_report.proofs.Counting.{counted-more}
use Rattle.nc_report.proofs.shown.counts_of.Goals as goal

pub overflow_add-index_mut : goal.overflow_add-index_mut
overflow_add-index_mut c =
    let letters = c.args.letters.now in
    let at = c.letters.sign-index in
    let sign = get_or letters at 0 in
    let small : sign < 256 = omega (arith, c.type_inv.letters at) in
    let counted = c.letters.invariant.each sign small in
    let value : c.index_mut.result.now ≡ get_or c.letters.counts.items sign 0
    = c.index_mut.ensures.value ∙ get_or_default c.letters.counts.items sign c.index_mut.result.now 0 (omega (arith, c.letters.invariant.len)) in
    grind (arith, common_steps, count_by-le-length (λ b. b == sign) (take at letters), value, counted)

pub letters-preserved : goal.letters-preserved
letters-preserved c =
    let letters = c.args.letters.now in
    let at = c.letters.sign-index in
    let small : get_or letters at 0 < 256 = omega (arith, c.type_inv.letters at) in
    let value : c.index_mut.result.now ≡ get_or c.letters.counts.items (get_or letters at 0) 0
    = c.index_mut.ensures.value ∙ get_or_default c.letters.counts.items (get_or letters at 0) c.index_mut.result.now 0 (omega (arith, c.letters.invariant.len)) in
    record {
      len = length-set c.letters.counts.items (get_or letters at 0) (c.index_mut.result.now + 1) ∙ c.letters.invariant.len;
      each = counted-more c.letters.counts.items letters at c.index_mut.result.now c.letters-test.true c.letters.invariant.len small value c.letters.invariant.each;
    }
