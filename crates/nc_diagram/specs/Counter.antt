-- When one function implies another, and the greatest set on which it doesn't.
use Rattle.std.specs.Prelude.{◌≡◌, ℕ, ◌<◌, ◌≤◌, ◌⊎◌, Bool, true, false, List}
use Rattle.nc_diagram.specs.declared.node.Node.{Node}
use Rattle.nc_diagram.specs.Sets.{Members, has, fixing, below}
use Rattle.nc_diagram.specs.Diagrams.{meaning, level}

-- every set with f true has g true
abbrev pub Implies : (Members → Bool) → (Members → Bool) → Type 0
Implies f g = (s : Members) → f s ≡ true → g s ≡ true

-- the set has f true and g false
abbrev pub Separates : (Members → Bool) → (Members → Bool) → Members → Type 0
Separates f g s = (f s ≡ true) × (g s ≡ false)

-- the two sets have the same members
abbrev pub SameMembers : Members → Members → Type 0
SameMembers s t = (v : ℕ) → has s v ≡ has t v

-- of two sets that one is greater which has the lowest variable in which they differ
pub record IsGreater (s t : Members) : Type 0 where
  pub variable : ℕ
  pub member : has s variable ≡ true
  pub missing : has t variable ≡ false
  pub same_below : (v : ℕ) → v < variable → has s v ≡ has t v

-- the greatest of the sets with f true and g false
pub record IsGreatest (f g : Members → Bool) (s : Members) : Type 0 where
  pub separates : Separates f g s
  pub greatest : (t : Members) → Separates f g t → SameMembers s t ⊎ IsGreater s t

-- the reference e is r where the variable is fixed to a value and the function asks for no variable above it
pub record IsEndAt (nodes : List Node) (r v : ℕ) (side : Bool) (e : ℕ) : Type 0 where
  pub no_newer : e ≤ r
  pub older : level nodes r ≡ v → e < r
  pub later : v < level nodes e
  pub value : (s : Members) → meaning nodes e s ≡ meaning nodes r (fixing (below v side) s)
