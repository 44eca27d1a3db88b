use Rattle.std.proofs.Common.{◌+◌, ◌<◌, ◌≤◌, All, sym, subst, ◌∙◌, arith}
use Rattle.std.proofs.lemmas.List.Elements.{All-take}
use Rattle.nc_diagram.specs.declared.table.Slot.{Slot}
use Rattle.nc_diagram.specs.Table.{of_call}
use Rattle.nc_diagram.proofs.TableLemmas.{of_call-next}
use Rattle.nc_diagram.proofs.table.Table.end.Goals as goal

pub invariant_of-self : goal.invariant_of-self
invariant_of-self c =
    let call = c.args.self.now.call in
    let slots = c.args.self.now.slots.items in
    let kept = c.shrink_to_fit.new.self.items in
    let low : Slot → Type 0 = λ e. e.call ≤ call in
    let earlier : All low kept = subst (All low) (sym (c.shrink_to_fit.ensures.items ∙ c.truncate.ensures.items)) (All-take low 65536 slots c.args.self.now.earlier) in
    let counted : 0 < call + 1 = omega arith in
    let used : of_call (call + 1) kept ≤ 0 = omega (arith, of_call-next call kept earlier) in
    record { counted = counted; earlier = λ k d h. let first = earlier k d h in omega (arith, first); used = used; roomy = omega arith }

pub invariant_of-self-else-len-gt-MOST : goal.invariant_of-self-else-len-gt-MOST
invariant_of-self-else-len-gt-MOST c =
    let call = c.args.self.now.call in
    let slots = c.args.self.now.slots.items in
    let earlier = c.args.self.now.earlier in
    let counted : 0 < call + 1 = omega arith in
    let used : of_call (call + 1) slots ≤ 0 = omega (arith, of_call-next call slots earlier) in
    record { counted = counted; earlier = λ k d h. let first = earlier k d h in omega (arith, first); used = used; roomy = omega arith }
