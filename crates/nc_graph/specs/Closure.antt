-- What facts are derived from: the facts reached from some, and the closure of a list of facts.
use Rattle.std.specs.Prelude.{◌↔◌, ℕ, ◌<◌, List, length, All, Contains}
use Rattle.std.specs.List.{IsDistinct}
use Rattle.nc_graph.specs.Flow.{Flow}

-- a fact is reached from f where it is f, or is reached from a parent of f
pub data Reaches {F : Type 0} (g : Flow F) : F → F → Type 0 where
  itself : (f : F) → Reaches g f f
  by_parent : (f p h : F) → Contains (g.parents f) p → Reaches g p h → Reaches g f h

module _ {F : Type 0} (g : Flow F) where
  -- h is reached from some fact of the list
  abbrev pub IsReachedFrom : List F → F → Type 0
  IsReachedFrom fs h = (f : F) × Contains fs f × Reaches g f h

  -- xs is a closure of fs: it has no fact twice, and has exactly the facts that are reached from fs
  pub record IsClosure (fs xs : List F) : Type 0 where
    pub distinct : IsDistinct g.same xs
    pub exact : (h : F) → Contains xs h ↔ IsReachedFrom fs h

  -- more than n facts are reached from fs
  pub record ReachesMoreThan (n : ℕ) (fs : List F) : Type 0 where
    pub some : List F
    pub distinct : IsDistinct g.same some
    pub reached : All (IsReachedFrom fs) some
    pub more : n < length some
