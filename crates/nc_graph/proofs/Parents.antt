-- A node's kind and the numbers of its parents, by what a graph has at its place.
use Rattle.std.proofs.Common.{◌≡◌, ℕ, inl, inr, List, [], ◌∷◌, map, Some, slice_get, ap}
use Rattle.std.proofs.lemmas.Option.{get_or_from_slice_get}
use Rattle.nc_graph.specs.declared.node.NodeKind.{NodeKind}
use Rattle.nc_graph.specs.declared.node.NodeKind.TheVariants.{Every}
use Rattle.nc_graph.specs.declared.node.NodeId.{NodeId}
use Rattle.nc_graph.specs.Nodes.{Nodes, node_flow}
use Rattle.nc_graph.proofs.Members.{In}

-- the number of one of some nodes
pub in-map : (ps : List NodeId) (p : NodeId) → In p ps → In p.0 (map (λ p. p.0) ps)
in-map [] p i = absurd i
in-map (q ∷ qs) p i = elim i [ inl e ↦ inl (ap (λ p. p.0) e) | inr i' ↦ inr (in-map qs p i') ]

module _ {F : Type 0} (n : Nodes F) (i : ℕ) where
  pub kind-at : (k : NodeKind) → slice_get n.kinds i ≡ Some k → (node_flow n).kind i ≡ k
  kind-at k at = get_or_from_slice_get n.kinds i k Every at

  pub parents-at : (ps : List NodeId) → slice_get n.parents i ≡ Some ps → (node_flow n).parents i ≡ map (λ p. p.0) ps
  parents-at ps at = ap (map (λ p. p.0)) (get_or_from_slice_get n.parents i ps [] at)
