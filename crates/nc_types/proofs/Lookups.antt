-- Whether anything in a list passes a test, and where.
use Rattle.std.proofs.Common.{◌≡◌, ℕ, ◌+◌, Bool, true, false, cond, ◌||◌, List, [], ◌∷◌, Some, refl, ap, ◌∙◌}
use Rattle.std.specs.Prelude.{position}
use Rattle.std.specs.List.{list_any, position_from}
use Rattle.std.specs.Option.{is_some}
use Rattle.std.proofs.lemmas.Iterator.Adapters.{position_from-zero}

module _ {A : Type 0} (test : A → Bool) where
  some_position : (k : ℕ) (xs : List A) → is_some (position_from test k xs) ≡ list_any test xs
  some_position k [] = refl
  some_position k (x ∷ xs) = on (test x) (some_position (k + 1) xs)
    where
      on : (b : Bool) → is_some (position_from test (k + 1) xs) ≡ list_any test xs → is_some (cond b (Some k) (position_from test (k + 1) xs)) ≡ (b || list_any test xs)
      on true more = refl
      on false more = more

  -- a place is found exactly where something passes
  pub is_placed : (xs : List A) → is_some (position test xs) ≡ list_any test xs
  is_placed xs = ap is_some (position_from-zero test xs) ∙ some_position 0 xs
