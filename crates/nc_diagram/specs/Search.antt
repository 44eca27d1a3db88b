-- The search for the greatest set that tells one function from another, over pairs of references.
use Rattle.std.specs.Prelude.{◌≡◌, ℕ, Bool, true, false, min, ◌⊎◌, List, [], ◌∷◌, ◌++◌}
use Rattle.nc_diagram.specs.declared.node.Node.{Node}
use Rattle.nc_diagram.specs.declared.apply.Pair.{Pair}
use Rattle.nc_diagram.specs.declared.counter.Turn.{Turn}
use Rattle.nc_diagram.specs.declared.counter.Turn.TheVariants.{High, Low}
use Rattle.nc_diagram.specs.declared.counter.Search.{Search}
use Rattle.nc_diagram.specs.declared.counter.Search.TheVariants.{Look, Barren, Found}
use Rattle.nc_diagram.specs.Diagrams.{meaning, level}
use Rattle.nc_diagram.specs.Counter.{Implies, IsEndAt}

-- each reference of the pair e is that of p where the variable is fixed to a value
pub record AreEndsAt (nodes : List Node) (p : Pair) (v : ℕ) (side : Bool) (e : Pair) : Type 0 where
  pub left : IsEndAt nodes p.left v side e.left
  pub right : IsEndAt nodes p.right v side e.right

-- the left function implies the right one
abbrev pub Entails : List Node → Pair → Type 0
Entails nodes p = Implies (meaning nodes p.left) (meaning nodes p.right)

-- the variables at which the search went on with the low ends
unfoldable pub low_variables : List Turn → List ℕ
low_variables [] = []
low_variables (High p v low ∷ turns) = low_variables turns
low_variables (Low p v ∷ turns) = v ∷ low_variables turns

-- what is found of a pair: its high ends are looked at, and the turn is listed; or no set tells its functions apart, by its
-- references or since it is known; or each set does
abbrev pub Looks : List Node → (Pair → Bool) → Pair → List Turn → List Turn → Search → Type 0
Looks nodes known p old new (Look high) =
    (v : ℕ) × (low : Pair) × (new ≡ old ++ High p v low ∷ []) × (v ≡ min (level nodes p.left) (level nodes p.right)) × AreEndsAt nodes p v true high × AreEndsAt nodes p v false low
Looks nodes known p old new (Barren q) = (new ≡ old) × (q ≡ p) × (Entails nodes p ⊎ (known p ≡ true))
Looks nodes known p old new Found = (new ≡ old) × (p.left ≡ 1) × (p.right ≡ 0)
