-- Sets of variables, and functions from them to truth values.
use Rattle.std.specs.Prelude.{◌≡◌, ℕ, ◌-◌, ◌+◌, Bool, true, false, ◌&&◌, ◌||◌, List, [], ◌∷◌, ◌++◌, length, drop, replicate, slice_index_or}

-- a set of variables: whether each variable below the list's length is a member, and whether all the others are
pub record Members : Type 0 where
  pub places : List Bool
  pub rest : Bool

-- whether the variable is a member
abbrev pub has : Members → ℕ → Bool
has s v = slice_index_or s.places v s.rest

-- the set of the places that are true
abbrev pub among : List Bool → Members
among places = record { places = places; rest = false }

-- the set, where membership of the lowest variables is given
unfoldable pub fixing : List Bool → Members → Members
fixing lowest s = record { places = lowest ++ drop (length lowest) s.places; rest = s.rest }

-- the variables below v fixed to false, and v to b
unfoldable pub below : ℕ → Bool → List Bool
below v b = replicate v false ++ b ∷ []

-- from a variable on, all are members but the listed ones, which ascend
abbrev pub places_but : ℕ → List ℕ → List Bool
places_but from [] = []
places_but from (v ∷ vs) = replicate (v - from) true ++ false ∷ places_but (v + 1) vs

-- all variables but the listed ones, which ascend
unfoldable pub all_but : List ℕ → Members
all_but missing = record { places = places_but 0 missing; rest = true }

-- two functions are the same where they agree on every set
abbrev pub Same : (Members → Bool) → (Members → Bool) → Type 0
Same f g = (s : Members) → f s ≡ g s

-- two functions are distinct
abbrev pub Differ : (Members → Bool) → (Members → Bool) → Type 0
Differ f g = Same f g → ⊥

-- no one value is the function's on all sets
abbrev pub IsNotConstant : (Members → Bool) → Type 0
IsNotConstant f = (b : Bool) → Same f (λ _. b) → ⊥

-- the conjunction and the disjunction of two functions
abbrev pub both : (Members → Bool) → (Members → Bool) → Members → Bool
both f g s = f s && g s

abbrev pub either : (Members → Bool) → (Members → Bool) → Members → Bool
either f g s = f s || g s

-- g is f after the variables below some number, perhaps none, were given fixed values
abbrev pub IsLowestFixed : (Members → Bool) → (Members → Bool) → Type 0
IsLowestFixed f g = (lowest : List Bool) × Same g (λ s. f (fixing lowest s))
