use Rattle.std.proofs.Common.{◌-◌, ◌<◌, sym, subst, arith}
use Rattle.std.proofs.lemmas.Nat.{and_le_r}
use Rattle.nc_diagram.proofs.WayLemmas.{next-within}
use Rattle.nc_diagram.proofs.table.Table.find.Goals as goal

pub slots-init : goal.slots-init
slots-init c = omega (arith, and_le_r c.args.home (c.len-count.result - 1))

pub slots-preserved : goal.slots-preserved
slots-preserved c = subst (λ at. at < c.len-count.result) (sym c.next-at.ensures) (next-within c.len-count.result c.slots.at c.slots.invariant)
