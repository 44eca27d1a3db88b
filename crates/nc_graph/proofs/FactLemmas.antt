-- The facts of nodes, and what is reached from them.
use Rattle.std.proofs.Common.{◌≡◌, ℕ, inl, inr, List, [], ◌∷◌, map, get_or, Some, slice_get, ap, ◌∙◌, subst, refl}
use Rattle.nc_graph.specs.declared.node.NodeId.{NodeId}
use Rattle.nc_graph.specs.Flow.{Flow}
use Rattle.nc_graph.specs.Closure.{Reaches, itself, by_parent, IsReachedFrom}
use Rattle.nc_graph.specs.Nodes.{Nodes, node_flow, Mirrors}
use Rattle.nc_graph.proofs.Members.{In}
use Rattle.nc_graph.proofs.WalkLemmas.{Contains-in, in-Contains}

-- an element of a list of which P holds
abbrev pub With : {X : Type 0} → (X → Type 0) → List X → Type 0
With {X} P xs = (x : X) × In x xs × P x

module _ {F : Type 0} (n : Nodes F) where
  -- the fact of each of the nodes, and the node of each of the facts
  pub fact-of : (ids : List NodeId) (fs : List F) → map (λ p. slice_get n.facts p.0) ids ≡ map Some fs → (j : ℕ) → In j (map (λ p. p.0) ids) → With (λ f. slice_get n.facts j ≡ Some f) fs
  fact-of [] fs are j i = absurd i
  fact-of (d ∷ ds) [] are j i = absurd (cc)
  fact-of (d ∷ ds) (f ∷ fs) are j i =
      let here : slice_get n.facts d.0 ≡ Some f = cc in
      let rest : map (λ p. slice_get n.facts p.0) ds ≡ map Some fs = cc in
      elim i [
        | inl e ↦ (f, inl refl, subst (λ k. slice_get n.facts k ≡ Some f) e here)
        | inr i' ↦ let r = fact-of ds fs rest j i' in (r.0, inr r.1, r.2)
      ]

  pub node-of : (ids : List NodeId) (fs : List F) → map (λ p. slice_get n.facts p.0) ids ≡ map Some fs → (f : F) → In f fs → With (λ j. slice_get n.facts j ≡ Some f) (map (λ p. p.0) ids)
  node-of [] [] are f i = absurd i
  node-of [] (g ∷ gs) are f i = absurd (cc)
  node-of (d ∷ ds) [] are f i = absurd i
  node-of (d ∷ ds) (g ∷ gs) are f i =
      let here : slice_get n.facts d.0 ≡ Some g = cc in
      let rest : map (λ p. slice_get n.facts p.0) ds ≡ map Some gs = cc in
      elim i [
        | inl e ↦ (d.0, inl refl, here ∙ ap Some e)
        | inr i' ↦ let r = node-of ds gs rest f i' in (r.0, inr r.1, r.2)
      ]

module _ {F : Type 0} (g : Flow F) (n : Nodes F) (m : Mirrors g n) where
  -- what a node reaches has a fact, which the node's fact reaches
  reaches-fact : {i j : ℕ} → Reaches (node_flow n) i j → (f : F) → slice_get n.facts i ≡ Some f → (h : F) × (slice_get n.facts j ≡ Some h) × Reaches g f h
  reaches-fact (itself i) f at = (f, at, itself f)
  reaches-fact (by_parent i p j within rest) f at =
      let w = m.each i f at in
      let q = fact-of n (get_or n.parents i []) (g.parents f) w.parents p (Contains-in ((node_flow n).parents i) p within) in
      let r = reaches-fact rest q.0 q.2 in
      (r.0, r.1, by_parent f q.0 r.0 (in-Contains (g.parents f) q.0 q.1) r.2)

  -- what is reached from nodes has a fact, which is reached from their facts
  pub reached-fact : (ids : List NodeId) (fs : List F) → map (λ p. slice_get n.facts p.0) ids ≡ map Some fs → (j : ℕ) → IsReachedFrom (node_flow n) (map (λ p. p.0) ids) j
      → (h : F) × (slice_get n.facts j ≡ Some h) × IsReachedFrom g fs h
  reached-fact ids fs are j (i, from, reaches) =
      let top = fact-of n ids fs are i (Contains-in (map (λ p. p.0) ids) i from) in
      let r = reaches-fact reaches top.0 top.2 in
      (r.0, r.1, (top.0, in-Contains fs top.0 top.1, r.2))
