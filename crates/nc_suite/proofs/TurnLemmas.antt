-- A turn of the tests, where these are of the nodes that a call was handed.
use Rattle.std.proofs.Common.{◌≡◌, ℕ, suc, ◌<◌, ◌≤◌, List, [], ◌∷◌, length, map, get_or, sym, subst, arith, All}
use Rattle.std.proofs.lemmas.List.{length-map, get_or-map}
use Rattle.nc_graph.specs.declared.node.NodeId.{NodeId}
use Rattle.nc_graph.specs.Nodes.{Nodes, node_flow, IsGraph}
use Rattle.nc_graph.proofs.Members.{In, of_all}
use Rattle.nc_suite.specs.Counts.{Counts, Adds, AreAmong, AreCounts, AreSpared, mark_for}
use Rattle.nc_suite.specs.Suite.{still, Leaves, IsSuite}
use Rattle.nc_suite.proofs.SuiteLemmas.{in-mapped}
use Rattle.nc_suite.proofs.SpareLemmas.{turn-among, turn-left, turn-stays, leaves-left, leaves-stays}

module _ {F X : Type 0} (n : Nodes F) (is : IsGraph n) (elements : ℕ) (nodes : X → List NodeId) (handed : List X) (d : X) (valid : All (λ t. All (λ p. p.0 < length n.facts) (nodes t)) handed) where
  -- the tests by the numbers of their nodes
  abbrev pub tests : List (List ℕ)
  tests = map (λ t. map (λ p. p.0) (nodes t)) handed

  all-nodes : (t : List ℕ) → In t tests → (f : ℕ) → In f t → f < length n.facts
  all-nodes t i f j =
      let q = in-mapped (λ t. map (λ p. p.0) (nodes t)) handed t i in
      let r = in-mapped (λ p. p.0) (nodes q.0) f (subst (In f) (sym q.2) j) in
      subst (λ m. m < length n.facts) r.2
      (of_all (λ p. p.0 < length n.facts) (nodes q.0) r.0 (of_all (λ t. All (λ p. p.0 < length n.facts) (nodes t)) handed q.0 valid q.1) r.1)

  module _ (turn k : ℕ) (next : turn ≡ suc k) (within : turn ≤ length handed) (stay : List ℕ) (c : Counts) (are : AreCounts (node_flow n) elements (still tests turn stay) c) where
    -- the nodes of the test whose turn it is
    abbrev pub here : List ℕ
    here = map (λ p. p.0) (nodes (get_or handed k d))

    same : get_or tests k [] ≡ here
    same = get_or-map (λ t. map (λ p. p.0) (nodes t)) handed k d [] (omega arith)

    below : turn ≤ length tests
    below = let long = length-map handed (λ t. map (λ p. p.0) (nodes t)) in omega arith

    pub among : AreAmong (mark_for (node_flow n) here) c
    among = subst (λ t. AreAmong (mark_for (node_flow n) t) c) same (turn-among n is elements tests all-nodes turn k next below stay c are)

    pub left : (b : Counts) → Adds (mark_for (node_flow n) here) b c → AreCounts (node_flow n) elements (still tests k stay) b
    left b adds = turn-left n is elements tests all-nodes turn k next below stay c are b (subst (λ t. Adds (mark_for (node_flow n) t) b c) (sym same) adds)

    pub stays : AreCounts (node_flow n) elements (still tests k (k ∷ stay)) c
    stays = turn-stays n is elements tests all-nodes turn k next below stay c are

    module _ (leaves : (suite : List ℕ) → Leaves (node_flow n) elements tests turn stay suite → IsSuite (node_flow n) elements tests suite) (suite : List ℕ) where
      pub suite-left : AreSpared (mark_for (node_flow n) here) c → Leaves (node_flow n) elements tests k stay suite → IsSuite (node_flow n) elements tests suite
      suite-left spared = leaves-left n is elements tests all-nodes turn k next below stay c are leaves suite (subst (λ t. AreSpared (mark_for (node_flow n) t) c) (sym same) spared)

      pub suite-stays : (AreSpared (mark_for (node_flow n) here) c → ⊥) → Leaves (node_flow n) elements tests k (k ∷ stay) suite → IsSuite (node_flow n) elements tests suite
      suite-stays none = leaves-stays n is elements tests all-nodes turn k next below stay c are leaves suite (λ s. none (subst (λ t. AreSpared (mark_for (node_flow n) t) c) same s))
