-- How many facts were inferred at a moment of a walk.
use Rattle.std.proofs.Common.{◌≡◌, ℕ, ◌+◌, ◌-◌, ◌^◌, ◌<◌, ◌≤◌, List, length, sym, ap, ◌∙◌, subst, arith}
use Rattle.nc_graph.specs.declared.node.NodeId.{NodeId}
use Rattle.nc_graph.specs.Flow.{Flow, raised}
use Rattle.nc_graph.specs.Nodes.{Nodes}
use Rattle.nc_graph.specs.Walk.{Step}
use Rattle.nc_graph.proofs.WalkSteps.{Walk}

-- the count stays or grows
raised-least : (before n : ℕ) → before < 2 ^ 64 → before ≤ raised before n
raised-least before n small = omega arith

raised-most : (before n m : ℕ) → n ≤ m → raised before n ≤ raised before m
raised-most before n m le = omega arith

raised-twice : (before n m : ℕ) → n < m → raised (raised before n) 1 ≤ raised before m
raised-twice before n m le = omega arith

within : (found least limit old : ℕ) → found ≤ limit → limit ≡ old → found - least ≤ old + 1
within found least limit old room same = omega arith

within-more : (found least limit old : ℕ) → found ≤ limit → limit ≡ old → found - least < old + 1
within-more found least limit old room same = omega arith

module _ {F : Type 0} (g : Flow F) (old : Nodes F) (roots : List F) (before : ℕ) (n : Nodes F) (ids : List NodeId) (st : List (Step F)) (found count : ℕ) (w : Walk g old roots before n ids st found count) where
  -- since the walk began
  pub count-least : before < 2 ^ 64 → before ≤ count
  count-least small = subst (λ m. before ≤ m) (sym w.counted) (raised-least before (found - length old.facts) small)

  -- at most one more than the limit
  pub count-most : count ≤ raised before (old.limit + 1)
  count-most = subst (λ m. m ≤ raised before (old.limit + 1)) (sym w.counted)
      (raised-most before (found - length old.facts) (old.limit + 1) (within found (length old.facts) n.limit old.limit w.room w.extends.limit))

  -- also where one more is inferred
  pub more-least : before < 2 ^ 64 → before ≤ raised count 1
  more-least small = (let a = count-least small in omega arith)

  pub more-most : raised count 1 ≤ raised before (old.limit + 1)
  more-most = subst (λ m. raised m 1 ≤ raised before (old.limit + 1)) (sym w.counted)
      (raised-twice before (found - length old.facts) (old.limit + 1) (within-more found (length old.facts) n.limit old.limit w.room w.extends.limit))

  -- where there is no more room
  pub count-full : found ≡ n.limit → count ≡ raised before (old.limit - length old.facts)
  count-full full = w.counted ∙ ap (λ m. raised before (m - length old.facts)) (full ∙ w.extends.limit)
