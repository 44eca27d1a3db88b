-- Nodes by place, for the contracts of the crate's own functions.
use Rattle.std.specs.Prelude.{◌≡◌, ◌≢◌, ℕ, ◌+◌, ◌^◌, ◌<◌, ◌≤◌, List, [], ◌∷◌, length, ◌⊎◌, Option, None, Some, ◌==◌, if◌then◌else◌}
use Rattle.nc_diagram.specs.declared.node.Node.{Node}
use Rattle.nc_diagram.specs.Sets.{Members, has}
use Rattle.nc_diagram.specs.Diagrams.{Diagrams, Belongs, meaning, level, IsReduced}

-- the node of a reference
unfoldable pub node_at : List Node → ℕ → Option Node
node_at [] r = None
node_at (n ∷ older) r = if r == length older + 2 then Some n else node_at older r

-- the reference is that of the node, whose ends are older, ask for later variables and differ
pub record IsNodeAt (nodes : List Node) (r : ℕ) (n : Node) : Type 0 where
  pub node : 2 ≤ r
  pub belongs : Belongs nodes r
  pub low_older : n.low < r
  pub high_older : n.high < r
  pub narrow : n.variable < 2 ^ 32
  pub asks : level nodes r ≡ n.variable
  pub low_later : n.variable < level nodes n.low
  pub high_later : n.variable < level nodes n.high
  pub ends_differ : n.low ≢ n.high
  pub value : (s : Members) → meaning nodes r s ≡ meaning nodes (if has s n.variable then n.high else n.low) s
  pub found : node_at nodes r ≡ Some n

-- the reference means the choice of a variable between two older references, by the same nodes or by one more
pub record Makes (variable low high : ℕ) (old new : Diagrams) (r : ℕ) : Type 0 where
  pub same_limit : new.limit ≡ old.limit
  pub nodes : (new.nodes ≡ old.nodes) ⊎ (new.nodes ≡ record { variable = variable; low = low; high = high } ∷ old.nodes)
  pub reduced : IsReduced new.nodes
  pub belongs : Belongs new.nodes r
  pub value : (s : Members) → meaning new.nodes r s ≡ (if has s variable then meaning old.nodes high s else meaning old.nodes low s)
