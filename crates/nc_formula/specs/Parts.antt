-- What carries a fact, as a function of sets of elements, and the parts that diagrams of facts are made of.
use Rattle.std.specs.Prelude.{ℕ, ◌⊎◌, Bool, List, take}
use Rattle.std.specs.List.{list_any, list_all}
use Rattle.nc_graph.specs.Flow.{Flow, by_kind}
use Rattle.nc_graph.specs.Derivation.{carried}
use Rattle.nc_graph.specs.Closure.{IsReachedFrom}
use Rattle.nc_diagram.specs.Sets.{Members, has, Same, IsLowestFixed}
use Rattle.nc_diagram.specs.Diagrams.{Diagrams, Grows, HasNoRoom}

module _ {F : Type 0} (g : Flow F) where
  -- the sets of elements that carry a fact: each has all elements of some derivation of it
  abbrev pub carrying : F → Members → Bool
  carrying f s = carried g (has s) f

  -- the sets that carry each fact of a list, and those that carry some fact of it
  abbrev pub carrying_each : List F → Members → Bool
  carrying_each fs s = list_all (λ f. carrying f s) fs

  abbrev pub carrying_one : List F → Members → Bool
  carrying_one fs s = list_any (λ f. carrying f s) fs

  -- the sets that carry what the first k parents of a fact make of it: each of them for a conjunctive fact, some of them for
  -- a disjunctive one
  abbrev pub carrying_first : F → ℕ → Members → Bool
  carrying_first f k s = by_kind (g.kind f) (has s) (carrying_each (take k (g.parents f)) s) (carrying_one (take k (g.parents f)) s)

  -- the bases of a fact: the sets that carry it, and those that carry what some first parents make of it
  abbrev pub IsBaseOf : F → (Members → Bool) → Type 0
  IsBaseOf f b = Same b (carrying f) ⊎ ((k : ℕ) × Same b (carrying_first f k))

  -- the bases of all facts that are reached from some
  abbrev pub IsBaseFrom : List F → (Members → Bool) → Type 0
  IsBaseFrom fs b = (h : F) × IsReachedFrom g fs h × IsBaseOf h b

  -- the sets that carry each of the first k facts of a list
  abbrev pub IsFirstEach : List F → (Members → Bool) → Type 0
  IsFirstEach fs b = (k : ℕ) × Same b (carrying_each (take k fs))

  -- the bases of a test: those of all facts that its facts are derived from, and of its first facts together
  abbrev pub IsBaseOfTest : List F → (Members → Bool) → Type 0
  IsBaseOfTest fs b = IsBaseFrom fs b ⊎ IsFirstEach fs b

  -- the bases of two tests
  abbrev pub IsBaseOfBoth : List F → List F → (Members → Bool) → Type 0
  IsBaseOfBoth first second b = IsBaseOfTest first b ⊎ IsBaseOfTest second b

-- a base with the variables below some number fixed to some values; where it isn't constant it is a part
pub record IsFixed (IsBase : (Members → Bool) → Type 0) (h : Members → Bool) : Type 0 where
  pub base : Members → Bool
  pub is_base : IsBase base
  pub fixed : IsLowestFixed base h

-- all nodes were kept, references kept their functions, and each node added means a base with its lowest variables fixed
abbrev pub Gains : ((Members → Bool) → Type 0) → Diagrams → Diagrams → Type 0
Gains IsBase old new = Grows (IsFixed IsBase) old new

-- there is no room for the bases with their lowest variables fixed
abbrev pub IsCrowdedBy : ((Members → Bool) → Type 0) → Diagrams → Type 0
IsCrowdedBy IsBase old = HasNoRoom (IsFixed IsBase) old
