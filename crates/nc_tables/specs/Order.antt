-- A list in order.
use Rattle.std.specs.Prelude.{List, [], ◌∷◌, if◌then◌else◌}
use Rattle.std.specs.Ordering.{is_gt}
use Rattle.std.specs.declared.cmp.Ordering.{Ordering}

-- an item is put before the first one that isn't below it
abbrev pub insert : {A : Type 0} → (A → A → Ordering) → A → List A → List A
insert cmp x [] = x ∷ []
insert cmp x (y ∷ ys) = if is_gt (cmp x y) then y ∷ insert cmp x ys else x ∷ y ∷ ys

-- the items in order; of equal ones the first comes first
abbrev pub in_order : {A : Type 0} → (A → A → Ordering) → List A → List A
in_order cmp [] = []
in_order cmp (x ∷ xs) = insert cmp x (in_order cmp xs)
