use Rattle.std.proofs.Common.{◌≡◌, ◌+◌, ◌-◌, length, sym, subst, arith}
use Rattle.nc_diagram.specs.Index.{next, IsRun}
use Rattle.nc_diagram.proofs.IndexLemmas.{IsRun-none, IsRun-more}
use Rattle.nc_diagram.proofs.SlotLemmas.{Has, ComesTo-free}
use Rattle.nc_diagram.proofs.WayLemmas.{ComesTo, ComesTo-next}
use Rattle.nc_diagram.proofs.nodes.free_from.Goals as goal

pub slots-init : goal.slots-init
slots-init c =
    let slots = c.args.slots.now in
    let all : length slots ≡ length slots - 0 = omega arith in
    (IsRun-none slots (length slots) (c.args.count + 1) c.args.from, subst (λ room. ComesTo (Has slots 0) (length slots) room c.args.from) all (ComesTo-free slots c.args.from c.requires.from c.requires.some))

pub slots-preserved : goal.slots-preserved
slots-preserved c =
    let slots = c.args.slots.now in
    let count = length slots in
    let held = c.in-Some.ensures.held in
    let step : (count - c.slots._step) - 1 ≡ count - (c.slots._step + 1) = omega arith in (
      subst (IsRun slots count (c.args.count + 1) (c.slots._step + 1) c.args.from) (sym c.next-at.ensures)
          (IsRun-more slots count (c.args.count + 1) c.slots._step c.args.from c.slots.at c.slots.invariant.0 (omega (arith, held)) (omega (arith, held, c.in-Some.ensures.within))),
      subst (ComesTo (Has slots 0) count (count - (c.slots._step + 1))) (sym c.next-at.ensures)
          (subst (λ room. ComesTo (Has slots 0) count room (next count c.slots.at)) step (ComesTo-next (Has slots 0) count (count - c.slots._step) c.slots.at (λ none. omega (arith, held, none)) c.slots.invariant.1)),
    )
