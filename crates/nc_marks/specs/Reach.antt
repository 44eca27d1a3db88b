-- What flags of nodes say: that they are raised downward from nodes, and only at what these reach.
use Rattle.std.specs.Prelude.{◌≡◌, ℕ, ◌+◌, ◌<◌, ◌≤◌, Bool, true, false, ◌||◌, All, List, ◌++◌, length, nat_eq, sum_by, if◌then◌else◌}
use Rattle.std.specs.List.{list_any}
use Rattle.nc_graph.specs.declared.node.NodeKind.{NodeKind}
use Rattle.nc_graph.specs.declared.node.NodeId.{NodeId}
use Rattle.nc_graph.specs.declared.node.NodeKind.TheVariants.{Leaf, Every, Any}
use Rattle.nc_graph.specs.Flow.{Flow}
use Rattle.nc_graph.specs.Derivation.{occurs, strong}
use Rattle.nc_marks.specs.Sets.{flag, has_node}

-- whether a kind is that of the leaf of an element
abbrev pub is_leaf_of : ℕ → NodeKind → Bool
is_leaf_of e (Leaf m) = nat_eq e m
is_leaf_of e Every = false
is_leaf_of e Any = false

module _ (g : Flow ℕ) where
  -- the element is at a leaf below some of the nodes
  abbrev pub occurs_in : ℕ → List ℕ → Bool
  occurs_in e nodes = list_any (occurs g e) nodes

  -- the element is strong for some of the nodes
  abbrev pub strong_in : ℕ → List ℕ → Bool
  strong_in e nodes = list_any (strong g e) nodes

  -- the parents of each flagged node from `low` on are flagged
  pub record IsClosed (low : ℕ) (flags : List Bool) : Type 0 where
    pub each : (i : ℕ) → low ≤ i → flag flags i ≡ true → All (λ p. flag flags p ≡ true) (g.parents i)

  -- where an element occurs below a flagged node, it does below some of the nodes
  pub record IsReached (e : ℕ) (nodes : List ℕ) (flags : List Bool) : Type 0 where
    pub each : (i : ℕ) → flag flags i ≡ true → occurs g e i ≡ true → occurs_in e nodes ≡ true

  -- the element of a flagged node below `high`, a leaf
  abbrev pub IsAtLeaf : List Bool → ℕ → ℕ → Type 0
  IsAtLeaf flags high e = (i : ℕ) × (i < high) × (flag flags i ≡ true) × (is_leaf_of e (g.kind i) ≡ true)

  -- the value tells whether the element is at a flagged leaf below `high`
  pub record TellsLeaf (flags : List Bool) (high e : ℕ) (value : Bool) : Type 0 where
    pub only : value ≡ true → IsAtLeaf flags high e
    pub each : IsAtLeaf flags high e → value ≡ true

  -- the element of some of the nodes, a leaf
  abbrev pub leaf_in : ℕ → List NodeId → Bool
  leaf_in e nodes = list_any (λ p. is_leaf_of e (g.kind p.0)) nodes

  -- the flags tell what the nodes reach, as far as elements occur there: they are raised at the nodes and downward, and where one
  -- is raised no element occurs that doesn't occur below the nodes
  pub record AreReached (nodes : List ℕ) (flags : List Bool) : Type 0 where
    pub tops : All (λ i. flag flags i ≡ true) nodes
    pub closed : IsClosed 0 flags
    pub within : (e : ℕ) → IsReached e nodes flags

  -- the parents of each flagged node are flagged, unless it is listed
  pub record IsOpenAt (listed : List NodeId) (flags : List Bool) : Type 0 where
    pub each : (i : ℕ) → flag flags i ≡ true → has_node listed i ≡ false → All (λ p. flag flags p ≡ true) (g.parents i)

-- how many flags are lowered
abbrev pub lowered : List Bool → ℕ
lowered flags = sum_by (λ b. if b then 0 else 1) flags

-- a list went on with just the nodes whose flags were lowered and are raised now
pub record Raises (listed next : List NodeId) (before after : List Bool) : Type 0 where
  pub more : List NodeId
  pub next_is : next ≡ listed ++ more
  pub len : length after ≡ length before
  pub each : (i : ℕ) → flag after i ≡ (has_node more i || flag before i)
  pub fresh : All (λ p. flag before p.0 ≡ false) more
  pub count : length next + lowered after ≡ length listed + lowered before
