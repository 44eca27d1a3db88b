-- Which tests are kept where, from the greatest number to the least, each is left out without which no mark changes.
use Rattle.std.specs.Prelude.{◌≡◌, ◌↔◌, ℕ, suc, zero, ◌<◌, ◌⊎◌, not, nat_eq, List, [], ◌∷◌, ◌++◌, length, map, take, Some, slice_index_or}
use Rattle.std.specs.List.{flat_map, filter}
use Rattle.nc_graph.specs.Flow.{Flow}
use Rattle.nc_marks.specs.declared.mark.Mark.{Mark}
use Rattle.nc_marks.specs.Marks.{IsMark}

module _ {F : Type 0} where
  -- the facts of tests
  abbrev pub facts_of : List (List F) → List F
  facts_of tests = flat_map (λ test. test) tests

  -- the tests at places
  abbrev pub tests_at : List (List F) → List ℕ → List (List F)
  tests_at tests places = map (λ place. slice_index_or tests place []) places

  -- the tests that are still kept, where the first `turn` are to be looked at, and of the others those at the places stay
  abbrev pub still : List (List F) → ℕ → List ℕ → List (List F)
  still tests turn stay = take turn tests ++ tests_at tests stay

  -- the facts of two lists give each of the first `elements` elements the same mark
  abbrev pub HasSameMarks : Flow F → ℕ → List F → List F → Type 0
  HasSameMarks g elements xs ys = (e : ℕ) → e < elements → (mark : Mark) → IsMark g xs (Some e) mark ↔ IsMark g ys (Some e) mark

module _ {F : Type 0} (g : Flow F) (elements : ℕ) (tests : List (List F)) where
  -- of the tests that are still kept the last to be looked at is spare: without it all marks are the same
  abbrev pub IsSpare : ℕ → List ℕ → Type 0
  IsSpare turn stay = HasSameMarks g elements (facts_of (still tests turn stay)) (facts_of (still tests (suc turn) stay))

  -- what stays where the first `turn` tests are to be looked at, the last of them first, each of which is left out exactly
  -- where it is spare
  abbrev pub Leaves : ℕ → List ℕ → List ℕ → Type 0
  Leaves zero stay suite = suite ≡ stay
  Leaves (suc turn) stay suite =
      (IsSpare turn stay × Leaves turn stay suite) ⊎ ((IsSpare turn stay → ⊥) × Leaves turn (turn ∷ stay) suite)

  -- the suite, by places among the tests: what stays of all of them
  abbrev pub IsSuite : List ℕ → Type 0
  IsSuite suite = Leaves (length tests) [] suite

-- all places of a list but this one
abbrev pub without : ℕ → List ℕ → List ℕ
without place places = filter (λ other. not (nat_eq place other)) places
