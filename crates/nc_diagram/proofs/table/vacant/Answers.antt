use Rattle.std.proofs.Common.{◌≡◌, ◌+◌, ◌-◌, ◌<◌, length, bit_and, sym, subst, arith}
use Rattle.std.proofs.lemmas.Nat.{and_le_r}
use Rattle.nc_diagram.specs.Index.{next}
use Rattle.nc_diagram.proofs.TableLemmas.{IsVacant, ComesTo-vacant, none_yet}
use Rattle.nc_diagram.proofs.WayLemmas.{ComesTo, ComesTo-next}
use Rattle.nc_diagram.proofs.table.vacant.Goals as goal

pub slots-init : goal.slots-init
slots-init c =
    let slots = c.args.slots.now in
    let count = length slots in
    let from = bit_and c.home.result (count - 1) in
    let within : from < count = omega (arith, and_le_r c.home.result (count - 1), c.requires) in
    let all : count ≡ count - 0 = omega arith in
    subst (λ room. ComesTo (IsVacant c.args.call slots) count room from) all (ComesTo-vacant c.args.call slots from within c.requires)

pub slots-preserved : goal.slots-preserved
slots-preserved c =
    let slots = c.args.slots.now in
    let count = length slots in
    let call = c.args.call in
    let step : (count - c.slots._step) - 1 ≡ count - (c.slots._step + 1) = omega arith in
    subst (ComesTo (IsVacant call slots) count (count - (c.slots._step + 1))) (sym c.next-at.ensures)
    (subst (λ room. ComesTo (IsVacant call slots) count room (next count c.slots.at)) step
    (ComesTo-next (IsVacant call slots) count (count - c.slots._step) c.slots.at (λ vacant. vacant none_yet c.if-slots-at.false) c.slots.invariant))
