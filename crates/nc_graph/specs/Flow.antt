-- Flow graphs: facts, how each follows from others, and the laws that make derivations well founded.
use Rattle.std.specs.Prelude.{◌≡◌, ◌↔◌, ℕ, ◌+◌, ◌-◌, ◌^◌, min, ◌<◌, Bool, true, List, [], length, All}
use Rattle.nc_graph.specs.declared.node.NodeKind.{NodeKind}
use Rattle.nc_graph.specs.declared.node.NodeKind.TheVariants.{Leaf, Every, Any}

-- the facts of type F: when two are the same, which of them hold, and the kind, the parents and the rank of each
pub record Flow (F : Type 0) : Type 0 where
  pub same : F → F → Bool
  pub holds : F → Bool
  pub kind : F → NodeKind
  pub parents : F → List F
  pub rank : F → ℕ

-- the laws, which speak of the facts that hold
pub record IsFlow {F : Type 0} (g : Flow F) : Type 0 where
  -- the test of facts tells them apart
  pub same : (x y : F) → (g.same x y ≡ true) ↔ (x ≡ y)
  -- each parent holds and has a lower rank
  pub below : (f : F) → g.holds f ≡ true → All (λ p. (g.holds p ≡ true) × (g.rank p < g.rank f)) (g.parents f)
  -- a disjunctive fact has a parent
  pub chosen : (f : F) → g.holds f ≡ true → g.kind f ≡ Any → 0 < length (g.parents f)
  -- a leaf has none
  pub bare : (f : F) (e : ℕ) → g.holds f ≡ true → g.kind f ≡ Leaf e → g.parents f ≡ []

-- what a kind has: at a leaf by its element, else for a conjunctive and for a disjunctive fact
abbrev pub by_kind : {A : Type 0} → NodeKind → (ℕ → A) → A → A → A
by_kind (Leaf e) leaf every any = leaf e
by_kind Every leaf every any = every
by_kind Any leaf every any = any

-- a count of 64 bits that was raised by n, and stays at its last value
abbrev pub raised : ℕ → ℕ → ℕ
raised count n = min (count + n) (2 ^ 64 - 1)
