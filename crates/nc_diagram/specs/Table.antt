-- The answers of the pairs that an operator combined.
use Rattle.std.specs.Prelude.{ℕ, ◌==◌, List, All, count_by}
use Rattle.nc_diagram.specs.declared.node.Node.{Node}
use Rattle.nc_diagram.specs.declared.apply.Operator.{Operator}
use Rattle.nc_diagram.specs.declared.table.Slot.{Slot}
use Rattle.nc_diagram.specs.Operations.{IsAnswer}

-- what stands in each slot is true
abbrev pub AreRight : List Node → Operator → List Slot → Type 0
AreRight nodes operator slots = All (λ e. IsAnswer nodes operator e.pair e.place) slots

-- how many slots have an answer of this call
abbrev pub of_call : ℕ → List Slot → ℕ
of_call call slots = count_by (λ e. e.call == call) slots
