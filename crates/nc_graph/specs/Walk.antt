-- What a walk through a flow graph has still to do.
use Rattle.std.specs.Prelude.{List, ◌∷◌, ◌++◌, map, reverse}
use Rattle.nc_graph.specs.declared.node.NodeKind.{NodeKind}
use Rattle.nc_graph.specs.Flow.{Flow}

-- a fact to be found or inferred, or one that was inferred with its kind and parents and is to be numbered
pub data Step (F : Type 0) : Type 0 where
  visit : F → Step F
  number : F → NodeKind → List F → Step F

module _ {F : Type 0} where
  -- the steps after a fact is inferred: its parents are visited, and then it is numbered
  abbrev pub expanded : Flow F → F → List (Step F) → List (Step F)
  expanded g f st = map visit (reverse (g.parents f)) ++ number f (g.kind f) (g.parents f) ∷ st
