-- Lists that lie one behind the other in a list of items, each up to its end.
use Rattle.std.specs.Prelude.{◌≡◌, ℕ, suc, zero, ◌-◌, ◌≤◌, List, [], ◌∷◌, take, drop}

module _ {A : Type 0} where
  -- the items from one place up to another
  abbrev pub between : List A → ℕ → ℕ → List A
  between items from to = take (to - from) (drop from items)

  -- the lists from a place on, by their ends
  abbrev pub lists_by : List A → ℕ → List ℕ → List (List A)
  lists_by items from [] = []
  lists_by items from (end ∷ ends) = between items from end ∷ lists_by items end ends

-- where the list of a number begins: where the one before it ends
abbrev pub start_of : ℕ → List ℕ → ℕ → ℕ
start_of from ends zero = from
start_of from [] (suc i) = from
start_of from (end ∷ ends) (suc i) = start_of end ends i

-- the ends don't go down, and the last list ends with the items
abbrev pub AreEnds : ℕ → List ℕ → ℕ → Type 0
AreEnds from [] count = from ≡ count
AreEnds from (end ∷ ends) count = (from ≤ end) × AreEnds end ends count
