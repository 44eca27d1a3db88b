-- What a contract sees of the formulas found so far: by node, the reference of its diagram.
use Rattle.std.specs.Prelude.{◌≡◌, ℕ, Bool, true, List, Option, Some, None, slice_index_or, take}
use Rattle.std.specs.List.{list_any, list_all}
use Rattle.std.specs.Option.{option_map_or}
use Rattle.nc_graph.specs.declared.node.NodeId.{NodeId}
use Rattle.nc_graph.specs.Flow.{Flow}
use Rattle.nc_diagram.specs.declared.node.Node.{Node}
use Rattle.nc_diagram.specs.Sets.{Members, Same}
use Rattle.nc_diagram.specs.Diagrams.{Belongs, meaning}
use Rattle.nc_formula.specs.Parts.{carrying}

-- the reference known for a node
abbrev pub known : List (Option ℕ) → ℕ → Option ℕ
known table i = slice_index_or table i None

-- a reference is known for the node
abbrev pub IsKnown : List (Option ℕ) → ℕ → Type 0
IsKnown table i = (r : ℕ) × (known table i ≡ Some r)

-- what was known is known still
abbrev pub StillKnown : List (Option ℕ) → List (Option ℕ) → Type 0
StillKnown old new = (i r : ℕ) → known old i ≡ Some r → known new i ≡ Some r

-- the reference is of the store, and means the sets that carry the node
pub record IsDiagram (g : Flow ℕ) (nodes : List Node) (i r : ℕ) : Type 0 where
  pub holds : g.holds i ≡ true
  pub belongs : Belongs nodes r
  pub means : Same (meaning nodes r) (carrying g i)

-- each reference known is of the store, and means the sets that carry its node
pub record AreFormulas (g : Flow ℕ) (nodes : List Node) (table : List (Option ℕ)) : Type 0 where
  pub each : (i r : ℕ) → known table i ≡ Some r → IsDiagram g nodes i r

-- a reference of the store is known for the node
abbrev pub HasReference : List (Option ℕ) → List Node → ℕ → Type 0
HasReference table nodes i = (r : ℕ) × (known table i ≡ Some r) × Belongs nodes r

module _ (nodes : List Node) (table : List (Option ℕ)) where
  -- the function of the reference known for a node
  abbrev pub known_value : ℕ → Members → Bool
  known_value i s = option_map_or (λ r. meaning nodes r s) (known table i) true

  -- the conjunction of the functions known for nodes, and their disjunction
  abbrev pub each_known : List NodeId → Members → Bool
  each_known ids s = list_all (λ p. known_value p.0 s) ids

  abbrev pub one_known : List NodeId → Members → Bool
  one_known ids s = list_any (λ p. known_value p.0 s) ids

  -- the conjunction of the first k, and the disjunction of the first k
  abbrev pub IsFirstEachKnown : List NodeId → (Members → Bool) → Type 0
  IsFirstEachKnown ids b = (k : ℕ) × Same b (each_known (take k ids))

  abbrev pub IsFirstOneKnown : List NodeId → (Members → Bool) → Type 0
  IsFirstOneKnown ids b = (k : ℕ) × Same b (one_known (take k ids))
