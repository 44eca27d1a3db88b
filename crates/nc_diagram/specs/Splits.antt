-- A function by the lowest variable on which it depends.
use Rattle.std.specs.Prelude.{◌≡◌, ℕ, ◌<◌, Bool, true, false, List, Some}
use Rattle.nc_diagram.specs.declared.node.Node.{Node}
use Rattle.nc_diagram.specs.declared.parts.Split.{Split}
use Rattle.nc_diagram.specs.Sets.{Members, has, Same}
use Rattle.nc_diagram.specs.Diagrams.{meaning}
use Rattle.nc_diagram.specs.Places.{node_at}

-- the function has one value on all sets
abbrev pub IsConstant : (Members → Bool) → Type 0
IsConstant f = (b : Bool) × Same f (λ _. b)

-- the function depends on no variable up to v
abbrev pub IsLater : ℕ → (Members → Bool) → Type 0
IsLater v f = (s t : Members) → ((w : ℕ) → v < w → has s w ≡ has t w) → f s ≡ f t

-- the Shannon expansion of f by its lowest variable v: on the sets without v it is low, on those with v it is high, and neither
-- depends on v or on a lower variable
pub record IsExpansion (f : Members → Bool) (v : ℕ) (low high : Members → Bool) : Type 0 where
  pub missing : (s : Members) → has s v ≡ false → f s ≡ low s
  pub member : (s : Members) → has s v ≡ true → f s ≡ high s
  pub low_later : IsLater v low
  pub high_later : IsLater v high

-- the node of which these are the parts
abbrev pub node_of : Split → Node
node_of parts = record { variable = parts.variable; low = parts.low; high = parts.high }

-- the parts of a reference: they expand its function, their places are lower than its own, and they are those of its node
pub record Splits (nodes : List Node) (r : ℕ) (parts : Split) : Type 0 where
  pub low_older : parts.low < r
  pub high_older : parts.high < r
  pub expansion : IsExpansion (meaning nodes r) parts.variable (meaning nodes parts.low) (meaning nodes parts.high)
  pub found : node_at nodes r ≡ Some (node_of parts)
