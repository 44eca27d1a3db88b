use Rattle.std.proofs.Common.{◌≡◌, ◌+◌, ◌-◌, length, sym, subst, arith}
use Rattle.nc_diagram.specs.Index.{next}
use Rattle.nc_diagram.proofs.SlotLemmas.{Has, ComesTo-contained}
use Rattle.nc_diagram.proofs.WayLemmas.{ComesTo, ComesTo-next}
use Rattle.nc_diagram.proofs.nodes.slot_of.Goals as goal

pub slots-init : goal.slots-init
slots-init c =
    let slots = c.args.slots.now in
    let all : length slots ≡ length slots - 0 = omega arith in
    subst (λ room. ComesTo (Has slots c.args.number) (length slots) room c.args.from) all (ComesTo-contained slots c.args.number c.args.from c.requires.from c.requires.some)

pub slots-preserved : goal.slots-preserved
slots-preserved c =
    let slots = c.args.slots.now in
    let count = length slots in
    let number = c.args.number in
    let step : (count - c.slots._step) - 1 ≡ count - (c.slots._step + 1) = omega arith in
    subst (ComesTo (Has slots number) count (count - (c.slots._step + 1))) (sym c.next-at.ensures)
    (subst (λ room. ComesTo (Has slots number) count room (next count c.slots.at)) step (ComesTo-next (Has slots number) count (count - c.slots._step) c.slots.at c.if-slots-at.false c.slots.invariant))
