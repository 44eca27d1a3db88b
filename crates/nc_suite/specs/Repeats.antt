-- Tests that repeat others, of which no facts are left.
use Rattle.std.specs.Prelude.{◌≡◌, ◌⊎◌, List, [], ◌∷◌, ◌++◌, Contains}

module _ {F : Type 0} where
  -- what is left of a test behind what is left of those before it: its facts, or none where just these stand there
  abbrev pub IsLeft : List (List F) → List F → List F → Type 0
  IsLeft before test left = (left ≡ test) ⊎ ((left ≡ []) × Contains before test)

  -- what is left of tests, one after another
  abbrev pub AreLeft : List (List F) → List (List F) → List (List F) → Type 0
  AreLeft before [] [] = Unit {0}
  AreLeft before [] (left ∷ lefts) = ⊥
  AreLeft before (test ∷ tests) [] = ⊥
  AreLeft before (test ∷ tests) (left ∷ lefts) = IsLeft before test left × AreLeft (before ++ left ∷ []) tests lefts
