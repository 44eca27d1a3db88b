-- Elements that no test can reach.
use Rattle.std.specs.Prelude.{◌≡◌, ◌↔◌, ℕ, ◌<◌, List, length, Any, Contains}
use Rattle.std.specs.List.Sorted.{IsStrictlyIncreasing}
use Rattle.nc_graph.specs.declared.node.NodeKind.TheVariants.{Leaf}
use Rattle.nc_graph.specs.Derivation.{IsInSome}
use Rattle.nc_graph.specs.Flow.{Flow}
use Rattle.nc_graph.specs.Nodes.{Nodes, node_flow}

-- of the first `elements` elements just those that aren't met, ascending
pub record Misses (Meets : ℕ → Type 0) (elements : ℕ) (missed : List ℕ) : Type 0 where
  pub ascends : IsStrictlyIncreasing missed
  pub exact : (e : ℕ) → Contains missed e ↔ ((e < elements) × (Meets e → ⊥))

module _ {F : Type 0} where
  -- some node is of the element
  abbrev pub HasNode : Nodes F → ℕ → Type 0
  HasNode n e = (i : ℕ) × (i < length n.facts) × ((node_flow n).kind i ≡ Leaf e)

  -- the elements, of the first `elements`, that no node is of
  abbrev pub HaveNoNode : Nodes F → ℕ → List ℕ → Type 0
  HaveNoNode n elements listed = Misses (HasNode n) elements listed

  -- the dead elements, of the first `elements`: those that stand in no derivation of a root
  abbrev pub AreDead : Flow F → List F → ℕ → List ℕ → Type 0
  AreDead g roots elements listed = Misses (λ e. Any (IsInSome g e) roots) elements listed
