use Rattle.std.proofs.Common.{◌++◌, ◌∷◌, [], List, ℕ, ap, ◌∙◌}
use Rattle.nc_report.proofs.Digits.{first-digit}
use Rattle.nc_report.proofs.counter.Counter.new.Goals as goal

pub invariant_of-result : goal.invariant_of-result
invariant_of-result c =
    let head = c.args.head.now in
    let tail = c.args.tail.now in
    first-digit head tail c.extend_from_slice.new.self.items
    (c.in_ok-extend_from_slice.ensures.items ∙ ap (λ (t : List ℕ). t ++ tail) (c.in_ok-push.ensures.items ∙ ap (λ (t : List ℕ). t ++ 49 ∷ []) c.in_ok-text.ensures.items))
