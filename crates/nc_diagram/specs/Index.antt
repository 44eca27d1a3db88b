-- Where the nodes of a store are found by what they are: slots, each with the number of a node, counted from 1 in the order of age.
use Rattle.std.specs.Prelude.{◌≡◌, ℕ, zero, suc, ◌+◌, ◌*◌, ◌/◌, ◌%◌, ◌^◌, ◌<◌, ◌≤◌, ◌⊎◌, ◌==◌, if◌then◌else◌, Bool, true, false, List, length, get_or, count_by}
use Rattle.nc_diagram.specs.declared.node.Node.{Node}

-- the slot where a node's way begins, among so many
unfoldable pub home : Node → ℕ → ℕ
home n count = ((n.variable * 1013904223 + n.low * 739982445 + n.high * 695872825) % 2 ^ 32 * count) % 2 ^ 64 / 2 ^ 32

-- the slot behind another, among so many
abbrev pub next : ℕ → ℕ → ℕ
next count at = if at + 1 == count then 0 else at + 1

-- so many steps lead from a slot to another, over slots with numbers below a bound
unfoldable pub IsRun : List ℕ → ℕ → ℕ → ℕ → ℕ → ℕ → Type 0
IsRun slots count bound zero from to = from ≡ to
IsRun slots count bound (suc steps) from to = (0 < get_or slots from 0) × (get_or slots from 0 < bound) × IsRun slots count bound steps (next count from) to

-- fewer steps than some lead from a slot to that of the node with an index, over older ones
pub record IsFoundFrom (slots : List ℕ) (count room from index : ℕ) : Type 0 where
  pub steps : ℕ
  pub slot : ℕ
  pub few : steps < room
  pub run : IsRun slots count (index + 1) steps from slot
  pub there : get_or slots slot 0 ≡ index + 1

-- the node with an index is found on its way
abbrev pub IsFound : List ℕ → ℕ → Node → ℕ → Type 0
IsFound slots count n index = IsFoundFrom slots count count (home n count) index

-- each node is found on its way
abbrev pub IsIndexed : List ℕ → List Node → Type 0
IsIndexed slots nodes = (k : ℕ) (d : Node) → k < length nodes → IsFound slots (length slots) (get_or nodes k d) k

-- the slot is free, where there are so many nodes
abbrev pub IsFree : List ℕ → ℕ → ℕ → Type 0
IsFree slots nodes at = (get_or slots at 0 ≡ 0) ⊎ (nodes < get_or slots at 0)

-- from a slot the way leads to another, which is the first free one where there are so many nodes
pub record IsFreeFrom (slots : List ℕ) (nodes from at : ℕ) : Type 0 where
  pub steps : ℕ
  pub few : steps < length slots
  pub run : IsRun slots (length slots) (nodes + 1) steps from at
  pub free : IsFree slots nodes at

-- a number, and not the 0 of a slot that has none
abbrev pub is_number : ℕ → Bool
is_number zero = false
is_number (suc n) = true

-- how many slots have a number
abbrev pub numbered : List ℕ → ℕ
numbered slots = count_by is_number slots

-- the slots are for these nodes: each is found on its way, no more slots have a number than there are nodes, and a quarter of the slots is
-- kept free
pub record AreFor (slots : List ℕ) (nodes : List Node) : Type 0 where
  pub indexed : IsIndexed slots nodes
  pub used : numbered slots ≤ length nodes
  pub roomy : 4 * length nodes ≤ 3 * length slots
