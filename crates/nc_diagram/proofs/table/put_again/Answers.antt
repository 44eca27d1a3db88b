use Rattle.std.proofs.Common.{sym, subst}
use Rattle.std.proofs.lemmas.List.Elements.{All-set}
use Rattle.nc_diagram.specs.declared.table.Slot.{Slot}
use Rattle.nc_diagram.specs.Operations.{IsAnswer}
use Rattle.nc_diagram.proofs.RecentLemmas.{none-IsAnswer}
use Rattle.nc_diagram.proofs.TableLemmas.{none_yet, of_call-out}
use Rattle.nc_diagram.proofs.table.put_again.Goals as goal

pub put-requires : goal.put-requires
put-requires c = of_call-out c.args.call c.args.slots.now.items c.args.at none_yet c.requires.counted c.requires.within

pub returns-then-slot-gt0-clause-right : goal.returns-then-slot-gt0-clause-right
returns-then-slot-gt0-clause-right c = λ nodes operator h.
    let slots = c.args.slots.now.items in
    let right : Slot → Type 0 = λ e. IsAnswer nodes operator e.pair e.place in
    c.put.ensures.right nodes operator (All-set right slots c.args.at none_yet (none-IsAnswer nodes operator) h)
    (subst right (sym c.index-slot.ensures) (h c.args.at c.index-slot.result.now c.requires.within))
