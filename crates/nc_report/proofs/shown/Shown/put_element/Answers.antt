use Rattle.std.proofs.Common.{◌≡◌, ◌+◌, ◌&&◌, ◌≤◌, List, ℕ, Some, not, nat_eq, sym, subst, arith}
use Rattle.std.proofs.lemmas.Bool.{ltb-false}
use Rattle.std.proofs.lemmas.Grind.{common_steps}
use Rattle.nc_types.specs.Config.{element_view}
use Rattle.nc_types.specs.Network.{ElementIn, element_count, element_at}
use Rattle.nc_marks.specs.Sets.{has}
use Rattle.nc_report.specs.Shown.{AreFreshBut}
use Rattle.nc_report.proofs.Showing.{fresh-more, element-done, element-none}
use Rattle.nc_report.proofs.shown.Shown.put_element.Goals as goal

pub returns-in_default : goal.returns-in_default
returns-in_default c = λ due fresh.
    let out : element_count c.args.network.now ≤ c.args.element.0 = ltb-false c.args.element.0 (element_count c.args.network.now) (grind (arith, common_steps, c.in_default.ensures.within)) in
    fresh-more c.args.network.now c.args.marks.now due _ c.args.self.now (λ r k h. element-none c.args.network.now c.args.element.0 out (due r k) r k h) fresh

pub returns : goal.returns
returns c = λ due fresh.
    let x : ElementIn = record { router = c.in-Some.router.0; element = element_view c.in-Some.element.now } in
    let at : element_at c.args.network.now c.args.element.0 ≡ Some x = sym c.in-Some.ensures.element in
    fresh-more c.args.network.now c.args.marks.now _ _ c.put_lines.new.self (λ r k h. element-done c.args.network.now c.args.element.0 x at (due r k) r k h)
    (subst (λ (lines : List ℕ). AreFreshBut c.args.network.now c.args.marks.now (λ r k. due r k && not (nat_eq r x.router && has lines (k + 1))) c.put_lines.new.self) c.as_slice.ensures
    (c.put_lines.ensures due fresh))
