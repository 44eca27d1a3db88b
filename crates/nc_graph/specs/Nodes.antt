-- What a contract sees of a graph: its nodes, and the flow graph that they are.
use Rattle.std.specs.Prelude.{◌≡◌, ℕ, ◌<◌, ◌≤◌, ◌^◌, true, List, [], ◌∷◌, ◌++◌, length, map, take, Some, nat_eq, nat_lt, slice_get, slice_index_or}
use Rattle.nc_graph.specs.declared.node.NodeKind.{NodeKind}
use Rattle.nc_graph.specs.declared.node.NodeKind.TheVariants.{Leaf, Every, Any}
use Rattle.nc_graph.specs.declared.node.NodeId.{NodeId}
use Rattle.nc_graph.specs.Flow.{Flow, IsFlow}

-- by node: the fact, its kind, and the numbers of its parents; and how many nodes there may be
pub record Nodes (F : Type 0) : Type 0 where
  pub facts : List F
  pub kinds : List NodeKind
  pub parents : List (List NodeId)
  pub limit : ℕ

module _ {F : Type 0} where
  -- a graph without nodes
  abbrev pub no_nodes : ℕ → Nodes F
  no_nodes limit = record { facts = []; kinds = []; parents = []; limit = limit }

  -- the nodes as a flow graph, whose facts are their numbers and whose ranks are these too
  abbrev pub node_flow : Nodes F → Flow ℕ
  node_flow n = record {
    same = nat_eq;
    holds = λ i. nat_lt i (length n.facts);
    kind = λ i. slice_index_or n.kinds i Every;
    parents = λ i. map (λ p. p.0) (slice_index_or n.parents i []);
    rank = λ i. i;
  }

  -- what a kind asks of the parents: none at a leaf, one or more of a disjunctive fact
  abbrev pub HasShape : NodeKind → List F → Type 0
  HasShape (Leaf e) ps = ps ≡ []
  HasShape Every ps = Unit {0}
  HasShape Any ps = 0 < length ps

  -- what each graph meets: all nodes have a kind and parents, these make a flow graph, there are at most `limit`, and this is a `u32`
  pub record IsGraph (n : Nodes F) : Type 0 where
    pub kinds : length n.kinds ≡ length n.facts
    pub parents : length n.parents ≡ length n.facts
    pub flow : IsFlow (node_flow n)
    pub fits : length n.facts ≤ n.limit
    pub numbered : n.limit < 2 ^ 32

  -- the nodes of the ids have the facts of fs, in order
  abbrev pub AreNodesOf : Nodes F → List NodeId → List F → Type 0
  AreNodesOf n ids fs = map (λ p. slice_get n.facts p.0) ids ≡ map Some fs

  -- the node i is of the fact f as g has it: f holds, its kind is the node's, and its parents are those of the node's parents, in order
  pub record IsNodeOf (g : Flow F) (n : Nodes F) (i : ℕ) (f : F) : Type 0 where
    pub holds : g.holds f ≡ true
    pub kind : (node_flow n).kind i ≡ g.kind f
    pub parents : AreNodesOf n (slice_index_or n.parents i []) (g.parents f)

  -- each node is of its fact as g has it
  pub record Mirrors (g : Flow F) (n : Nodes F) : Type 0 where
    pub each : (i : ℕ) (f : F) → slice_get n.facts i ≡ Some f → IsNodeOf g n i f

  -- new has the nodes of old under their numbers, perhaps with others after them
  pub record Extends (old new : Nodes F) : Type 0 where
    pub facts : take (length old.facts) new.facts ≡ old.facts
    pub kinds : take (length old.facts) new.kinds ≡ old.kinds
    pub parents : take (length old.facts) new.parents ≡ old.parents
    pub limit : new.limit ≡ old.limit

  -- n with one more node, of a fact of the kind, whose parents are those nodes
  abbrev pub with_node : Nodes F → F → NodeKind → List NodeId → Nodes F
  with_node n f k ids = record {
    facts = n.facts ++ f ∷ [];
    kinds = n.kinds ++ k ∷ [];
    parents = n.parents ++ ids ∷ [];
    limit = n.limit;
  }

  -- the nodes with numbers below len
  abbrev pub first_nodes : ℕ → Nodes F → Nodes F
  first_nodes len n = record {
    facts = take len n.facts;
    kinds = take len n.kinds;
    parents = take len n.parents;
    limit = n.limit;
  }
