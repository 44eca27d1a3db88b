use Rattle.std.proofs.Common.{◌≡◌, ◌+◌, ◌∙◌, ℕ, length, All, sym, ap, subst}
use Rattle.std.proofs.lemmas.List.{length_push}
use Rattle.std.proofs.lemmas.List.Elements.{All-push}
use Rattle.nc_marks.specs.Marks.{marked_elements}
use Rattle.bench.proofs.suites.marks_of_each.Goals as goal

pub tests-preserved : goal.tests-preserved
tests-preserved c =
    let each = c.tests.each.items in
    let kept = c.in_ok-kept_for.field-0 in
    record {
      len = ap length c.in_ok-push.ensures.items ∙ length_push each kept ∙ ap (λ (n : ℕ). n + 1) c.tests.invariant.len;
      marked = subst (All (λ k. marked_elements k.marks ≡ 4)) (sym c.in_ok-push.ensures.items)
          (All-push (λ k. marked_elements k.marks ≡ 4) each kept c.tests.invariant.marked c.in_ok-kept_for.ensures.marks.count);
    }
