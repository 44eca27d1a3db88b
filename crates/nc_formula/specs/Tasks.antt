-- What the walk that makes formulas has still to do.
use Rattle.std.specs.Prelude.{◌≡◌, ℕ, ◌⊎◌, List, [], ◌∷◌, ◌++◌, map, Option, slice_index_or}
use Rattle.nc_graph.specs.declared.node.NodeId.{NodeId}
use Rattle.nc_graph.specs.Nodes.{Nodes}
use Rattle.nc_formula.specs.declared.walk.Task.{Task}
use Rattle.nc_formula.specs.declared.walk.Task.TheVariants.{Need, Make}
use Rattle.nc_formula.specs.Formulas.{IsKnown}

-- a node that is needed is known, or is to be made after its parents, which are needed
abbrev pub Opens : {F : Type 0} → Nodes F → List (Option ℕ) → NodeId → List Task → List Task → Type 0
Opens n table node old new =
    (IsKnown table node.0 × (new ≡ old)) ⊎ (new ≡ (old ++ Make node ∷ []) ++ map Need (slice_index_or n.parents node.0 []))
