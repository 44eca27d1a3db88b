-- The parts of a session: what its tests and the questions between two of them are made of.
use Rattle.std.specs.Prelude.{◌≡◌, ℕ, ◌<◌, ◌≤◌, Bool, List, [], ◌∷◌, ◌++◌, length, Contains, All, AllPairs, Option, Some, slice_get}
use Rattle.nc_graph.specs.Flow.{Flow}
use Rattle.nc_graph.specs.Nodes.{Nodes, node_flow}
use Rattle.nc_diagram.specs.Sets.{Members, Same, both, Differ, IsNotConstant}
use Rattle.nc_diagram.specs.Diagrams.{Diagrams, Belongs, meaning}
use Rattle.nc_formula.specs.Parts.{carrying_each, IsBaseOfTest, IsFixed}
use Rattle.nc_formula.specs.Formulas.{AreFormulas}

-- what was asked: the facts of each test, and of each question the places of its two tests
pub record Asked (F : Type 0) : Type 0 where
  pub tests : List (List F)
  pub pairs : List (ℕ × ℕ)

module _ {F : Type 0} where
  -- one more test, and one more question
  abbrev pub with_test : Asked F → List F → Asked F
  with_test a facts = record { tests = a.tests ++ facts ∷ []; pairs = a.pairs }

  abbrev pub with_question : Asked F → ℕ → ℕ → Asked F
  with_question a first second = record { tests = a.tests; pairs = a.pairs ++ (first, second) ∷ [] }

-- a part is a base with its lowest variables fixed that isn't constant
pub record IsPart (IsBase : (Members → Bool) → Type 0) (h : Members → Bool) : Type 0 where
  pub is_fixed : IsFixed IsBase h
  pub varies : IsNotConstant h

module _ {F : Type 0} (g : Flow F) (a : Asked F) where
  -- the bases of a session: those of each test, and of each question the sets that carry both of its tests
  pub data IsSessionBase (b : Members → Bool) : Type 0 where
    of_test : (facts : List F) → Contains a.tests facts → IsBaseOfTest g facts b → IsSessionBase b
    of_pair : (i j : ℕ) (first second : List F) → Contains a.pairs (i, j) → slice_get a.tests i ≡ Some first → slice_get a.tests j ≡ Some second
        → Same b (both (carrying_each g first) (carrying_each g second)) → IsSessionBase b

  -- each node of the diagrams means a base of the session with its lowest variables fixed
  pub record AreParts (d : Diagrams) : Type 0 where
    pub each : (r : ℕ) → 2 ≤ r → Belongs d.nodes r → IsFixed IsSessionBase (meaning d.nodes r)

  -- the session has more than n parts, distinct in pairs
  pub record HasMoreParts (n : ℕ) : Type 0 where
    pub functions : List (Members → Bool)
    pub more : n < length functions
    pub distinct : AllPairs Differ functions
    pub parts : All (IsPart IsSessionBase) functions

  -- the diagrams and the table are drawn for the session: each reference known means what carries its node, and each node of the
  -- diagrams is a part of the session
  pub record AreDrawn (n : Nodes F) (d : Diagrams) (table : List (Option ℕ)) : Type 0 where
    pub formulas : AreFormulas (node_flow n) d.nodes table
    pub parts : AreParts d
