-- The answers of earlier operations that a store keeps.
use Rattle.std.specs.Prelude.{ℕ, List, Contains}
use Rattle.nc_diagram.specs.declared.node.Node.{Node}
use Rattle.nc_diagram.specs.declared.apply.Operator.TheVariants.{And, Or}
use Rattle.nc_diagram.specs.declared.recent.Question.{Question}
use Rattle.nc_diagram.specs.declared.table.Slot.{Slot}
use Rattle.nc_diagram.specs.Operations.{IsAnswer}
use Rattle.nc_diagram.specs.Table.{AreRight}

-- each answer kept is true
abbrev pub AreAnswers : List Node → List (Question × ℕ) → Type 0
AreAnswers nodes kept = (q : Question) (r : ℕ) → Contains kept (q, r) → IsAnswer nodes q.operator q.pair r

-- what is kept is true: the answers of recent operations, and those of conjunctions and of disjunctions
pub record AreKept (nodes : List Node) (kept : List (Question × ℕ)) (conjoined disjoined : List Slot) : Type 0 where
  pub recent : AreAnswers nodes kept
  pub conjunctions : AreRight nodes And conjoined
  pub disjunctions : AreRight nodes Or disjoined
