use Rattle.std.proofs.Common.{◌≡◌, ◌≤◌, List, length, All}
use Rattle.nc_diagram.specs.declared.node.Node.{Node}
use Rattle.nc_diagram.specs.declared.apply.Operator.{Operator}
use Rattle.nc_diagram.specs.Table.{AreRight, of_call}
use Rattle.nc_diagram.proofs.table.spread.Given as goal

abbrev pub invariant-slots : goal.invariant-slots
invariant-slots l =
    ((nodes : List Node) (operator : Operator) → AreRight nodes operator l.fn.slots.items → AreRight nodes operator l.slots.items)
    × (of_call l.call l.slots.items ≤ of_call l.call l.fn.slots.items)
    × (All (λ e. e.call ≤ l.call) l.fn.slots.items → All (λ e. e.call ≤ l.call) l.slots.items)
    × (length l.slots.items ≡ length l.fn.slots.items)
