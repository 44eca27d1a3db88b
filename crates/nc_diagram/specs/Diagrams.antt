-- Ordered reduced binary decision diagrams: nodes, the function that a reference means, and what an operation adds.
use Rattle.std.specs.Prelude.{◌≡◌, ◌≢◌, ℕ, ◌+◌, ◌^◌, ◌<◌, ◌≤◌, ◌⊎◌, Bool, List, [], ◌∷◌, ◌++◌, length, All, AllPairs, Contains, ◌==◌, if◌then◌else◌}
use Rattle.nc_diagram.specs.declared.node.Node.{Node}
use Rattle.nc_diagram.specs.Sets.{Members, has, Same, Differ, IsNotConstant, IsLowestFixed}

-- what a contract sees of a store: its nodes, the newest first, and how many it may hold
pub record Diagrams : Type 0 where
  pub nodes : List Node
  pub limit : ℕ

-- a reference belongs where it is a constant, 0 or 1, or k + 2 for the k-th node made
abbrev pub Belongs : List Node → ℕ → Type 0
Belongs nodes r = r < length nodes + 2

-- the function of a reference: 1 is true, 0 is false, and a node asks for its variable and goes to its high or low end
unfoldable pub meaning : List Node → ℕ → Members → Bool
meaning [] r s = r == 1
meaning (n ∷ older) r s =
    if r == length older + 2 then meaning older (if has s n.variable then n.high else n.low) s else meaning older r s

-- the variable that a reference asks for; the constants come after all variables
unfoldable pub level : List Node → ℕ → ℕ
level [] r = 2 ^ 32
level (n ∷ older) r = if r == length older + 2 then n.variable else level older r

-- a node that may stand above older ones: its ends are older and ask for later variables, they differ, and it is new
pub record IsNode (older : List Node) (n : Node) : Type 0 where
  pub low_older : Belongs older n.low
  pub high_older : Belongs older n.high
  pub low_later : n.variable < level older n.low
  pub high_later : n.variable < level older n.high
  pub ends_differ : n.low ≢ n.high
  pub fresh : Contains older n → ⊥

-- ordered and reduced diagrams
unfoldable pub IsReduced : List Node → Type 0
IsReduced [] = Unit {0}
IsReduced (n ∷ older) = IsNode older n × IsReduced older

-- a store's nodes are reduced diagrams, no more than its limit, which leaves room for references of 32 bits
pub record IsStore (d : Diagrams) : Type 0 where
  pub reduced : IsReduced d.nodes
  pub within : length d.nodes ≤ d.limit
  pub narrow : d.limit ≤ 4294967293

-- all nodes were kept, references kept their functions, and each node added means a part
pub record Grows (IsPart : (Members → Bool) → Type 0) (old new : Diagrams) : Type 0 where
  pub same_limit : new.limit ≡ old.limit
  pub kept : (added : List Node) × (new.nodes ≡ added ++ old.nodes)
  pub unchanged : (r : ℕ) → Belongs old.nodes r → Belongs new.nodes r × Same (meaning new.nodes r) (meaning old.nodes r)
  pub parts : (r : ℕ) → length old.nodes + 2 ≤ r → Belongs new.nodes r → IsPart (meaning new.nodes r)

-- what an operation with the result f adds: nodes that mean f with its lowest variables fixed
abbrev pub Adds : (Members → Bool) → Diagrams → Diagrams → Type 0
Adds f old new = Grows (IsLowestFixed f) old new

-- a reference of the new store means f
pub record Means (new : Diagrams) (r : ℕ) (f : Members → Bool) : Type 0 where
  pub belongs : Belongs new.nodes r
  pub means : Same (meaning new.nodes r) f

-- the function is that of a node held
abbrev pub IsHeld : List Node → (Members → Bool) → Type 0
IsHeld nodes g = (r : ℕ) × (2 ≤ r) × Belongs nodes r × Same g (meaning nodes r)

-- there are more functions than the limit, distinct in pairs, none constant, each of a node held or a part
pub record HasNoRoom (IsPart : (Members → Bool) → Type 0) (old : Diagrams) : Type 0 where
  pub functions : List (Members → Bool)
  pub more : old.limit < length functions
  pub distinct : AllPairs Differ functions
  pub not_constant : All IsNotConstant functions
  pub each : All (λ g. IsHeld old.nodes g ⊎ IsPart g) functions

-- there is no room for f with its lowest variables fixed
abbrev pub IsCrowded : (Members → Bool) → Diagrams → Type 0
IsCrowded f old = HasNoRoom (IsLowestFixed f) old
