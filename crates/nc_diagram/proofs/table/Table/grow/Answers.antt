use Rattle.std.proofs.Common.{◌-◌, ◌*◌, ◌≤◌, List, length, All, sym, subst, arith}
use Rattle.std.proofs.lemmas.Grind.{common_steps}
use Rattle.nc_diagram.specs.declared.table.Slot.{Slot}
use Rattle.std.specs.Vec.{vec_len}
use Rattle.nc_diagram.specs.Table.{AreRight, of_call}
use Rattle.nc_diagram.proofs.RecentLemmas.{AreRight-room}
use Rattle.nc_diagram.proofs.TableLemmas.{of_call-room, earlier-room, at-most}
use Rattle.nc_diagram.proofs.table.Table.grow.Goals as goal

pub returns-clause-right : goal.returns-clause-right
returns-clause-right c = λ nodes operator h.
    let slots = c.args.self.now.slots in
    c.spread.ensures.right nodes operator
    (subst (AreRight nodes operator) (sym c.in_ok-resize.ensures.items) (AreRight-room nodes operator c.max.result (c.max.result - vec_len slots) slots.items h))

pub invariant_of-self : goal.invariant_of-self
invariant_of-self c =
    let s = c.args.self.now in
    let same = sym c.in_err-resize.ensures.items in
    record {
      counted = s.counted;
      earlier = subst (All (λ (e : Slot). e.call ≤ s.call)) same s.earlier;
      used = subst (λ slots. of_call s.call slots ≤ s.done) same s.used;
      roomy = subst (λ (slots : List Slot). 4 * s.done ≤ 3 * length slots) same s.roomy;
    }

pub invariant_of-self-2 : goal.invariant_of-self-2
invariant_of-self-2 c =
    let s = c.args.self.now in
    let made = sym c.in_ok-resize.ensures.items in
    let more = c.max.result - vec_len s.slots in
    let used : of_call s.call c.resize.new.self.items ≤ of_call s.call s.slots.items = subst (λ slots. of_call s.call slots ≤ of_call s.call s.slots.items) made (of_call-room s.call c.max.result more s.slots.items s.counted) in
    record {
      counted = s.counted;
      earlier = c.spread.ensures.earlier (subst (All (λ (e : Slot). e.call ≤ s.call)) made (earlier-room s.call c.max.result more s.slots.items s.earlier));
      used = at-most _ _ _ _ c.spread.ensures.used used s.used;
      roomy = grind (arith, common_steps);
    }
