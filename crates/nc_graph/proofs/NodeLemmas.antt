-- One more node keeps a graph a graph, and each node of its fact.
use Rattle.std.proofs.Common.{◌≡◌, ℕ, suc, zero, ◌+◌, ◌<◌, ◌⊎◌, inl, inr, Bool, true, List, [], ◌∷◌, ◌++◌, length, map, get_or, Some, slice_get, nat_lt, sym, ap, ◌∙◌, subst, refl, arith, take, min, position}
use Rattle.std.proofs.lemmas.Bool.{lt-ltb, ltb-true, cases_lt}
use Rattle.std.specs.List.{All, AllByRecursion}
use Rattle.std.proofs.lemmas.List.Elements.{All-from_recursion, All-weaker, All-map}
use Rattle.std.proofs.lemmas.List.{get_or_append_left, get_or_push, length_push, length-map, get_or-map, length-take, get_or-take}
use Rattle.std.proofs.lemmas.List.Quantifiers.{position-Some}
use Rattle.std.proofs.lemmas.Option.{slice_get_within, slice_get-get_or, get_or_from_slice_get}
use Rattle.nc_graph.specs.declared.node.NodeKind.{NodeKind}
use Rattle.nc_graph.specs.declared.node.NodeKind.TheVariants.{Every}
use Rattle.nc_graph.specs.declared.node.NodeId.{NodeId}
use Rattle.nc_graph.specs.Flow.{Flow, IsFlow}
use Rattle.nc_graph.specs.Nodes.{Nodes, node_flow, IsGraph, IsNodeOf, Mirrors, AreNodesOf, HasShape, with_node, first_nodes}

-- an element that the list has at a place, in a longer list
pub slice_get-left : {X : Type 0} (xs ys : List X) (i : ℕ) (x : X) → slice_get xs i ≡ Some x → slice_get (xs ++ ys) i ≡ Some x
slice_get-left [] ys i x h = absurd (cc)
slice_get-left (z ∷ zs) ys zero x h = h
slice_get-left (z ∷ zs) ys (suc i) x h = slice_get-left zs ys i x h

pub slice_get-last : {X : Type 0} (xs : List X) (y : X) → slice_get (xs ++ y ∷ []) (length xs) ≡ Some y
slice_get-last [] y = refl
slice_get-last (z ∷ zs) y = slice_get-last zs y

pub slice_get-push_cases : {X : Type 0} (xs : List X) (y : X) (i : ℕ) (x : X) → slice_get (xs ++ y ∷ []) i ≡ Some x → (slice_get xs i ≡ Some x) ⊎ ((i ≡ length xs) × (y ≡ x))
slice_get-push_cases [] y zero x h = inr (refl, cc)
slice_get-push_cases [] y (suc i) x h = absurd (cc)
slice_get-push_cases (z ∷ zs) y zero x h = inl h
slice_get-push_cases (z ∷ zs) y (suc i) x h = elim (slice_get-push_cases zs y i x h) [ inl a ↦ inl a | inr b ↦ inr (ap suc b.0, b.1) ]

-- a bound on each number, on the list of the numbers
numbers-all : (P : ℕ → Type 0) (ids : List NodeId) → All (λ p. P p.0) ids → All P (map (λ p. p.0) ids)
numbers-all P ids h = All-map P (λ p. p.0) ids h

module _ {F : Type 0} where
  -- nodes of a list of facts stay so in a graph with more nodes
  pub nodes_of-more : (xs ys : List F) (ids : List NodeId) (fs : List F) → map (λ p. slice_get xs p.0) ids ≡ map Some fs → map (λ p. slice_get (xs ++ ys) p.0) ids ≡ map Some fs
  nodes_of-more xs ys [] fs h = h
  nodes_of-more xs ys (p ∷ ps) [] h = absurd (cc)
  nodes_of-more xs ys (p ∷ ps) (f ∷ fs) h =
      let e : slice_get xs p.0 ≡ Some f = cc in
      let r : map (λ p. slice_get xs p.0) ps ≡ map Some fs = cc in
      let here = slice_get-left xs ys p.0 f e in
      let rest = nodes_of-more xs ys ps fs r in cc

  -- there are as many
  pub nodes_of-length : (xs : List F) (ids : List NodeId) (fs : List F) → map (λ p. slice_get xs p.0) ids ≡ map Some fs → length ids ≡ length fs
  nodes_of-length xs ids fs h = sym (length-map ids (λ p. slice_get xs p.0)) ∙ ap length h ∙ length-map fs Some

  -- and their numbers are those of nodes
  pub nodes_of-within : (xs : List F) (ids : List NodeId) (fs : List F) → map (λ p. slice_get xs p.0) ids ≡ map Some fs → All (λ p. p.0 < length xs) ids
  nodes_of-within xs ids fs h = All-from_recursion (λ p. p.0 < length xs) ids (each ids fs h)
    where
      each : (ids : List NodeId) (fs : List F) → map (λ p. slice_get xs p.0) ids ≡ map Some fs → AllByRecursion (λ p. p.0 < length xs) ids
      each [] fs h = tt
      each (p ∷ ps) [] h = absurd (cc)
      each (p ∷ ps) (f ∷ fs) h =
          let e : slice_get xs p.0 ≡ Some f = cc in
          let r : map (λ p. slice_get xs p.0) ps ≡ map Some fs = cc in
          (slice_get_within xs p.0 f e, each ps fs r)

  -- a node's parents have lower numbers
  pub parents-lower : (n : Nodes F) → IsGraph n → (i : ℕ) → i < length n.facts → (ps : List NodeId) → slice_get n.parents i ≡ Some ps → All (λ p. p.0 < i) ps
  parents-lower n is i h ps at k d l =
      let same : get_or n.parents i [] ≡ ps = get_or_from_slice_get n.parents i ps [] at in
      let all = is.flow.below i (lt-ltb i (length n.facts) h) in
      let numbers : map (λ p. p.0) (get_or n.parents i []) ≡ map (λ p. p.0) ps = ap (map (λ p. p.0)) same in
      let here = subst (λ xs. All (λ p. (nat_lt p (length n.facts) ≡ true) × (p < i)) xs) numbers all k 0 (subst (λ m. k < m) (sym (length-map ps (λ p. p.0))) l) in
      subst (λ v. v < i) (get_or-map (λ p. p.0) ps k d 0 l) here.1

  module _ (n : Nodes F) (is : IsGraph n) (f : F) (kind : NodeKind) (ids : List NodeId)
      (shape : HasShape kind ids) (within : All (λ p. p.0 < length n.facts) ids) where
    -- the flow of the longer graph at an old node
    old-kind : (i : ℕ) → i < length n.facts → (node_flow (with_node n f kind ids)).kind i ≡ (node_flow n).kind i
    old-kind i h = get_or_append_left n.kinds (kind ∷ []) Every i (omega (arith, is.kinds))

    old-parents : (i : ℕ) → i < length n.facts → get_or (n.parents ++ ids ∷ []) i [] ≡ get_or n.parents i []
    old-parents i h = get_or_append_left n.parents (ids ∷ []) [] i (omega (arith, is.parents))

    -- and at the new one
    new-kind : (node_flow (with_node n f kind ids)).kind (length n.facts) ≡ kind
    new-kind = get_or_push n.kinds kind Every (length n.facts) is.kinds

    new-parents : get_or (n.parents ++ ids ∷ []) (length n.facts) [] ≡ ids
    new-parents = get_or_push n.parents ids [] (length n.facts) is.parents

    -- a node of the longer graph is an old one or the new one
    node_cases : (i : ℕ) → nat_lt i (length (n.facts ++ f ∷ [])) ≡ true → (i < length n.facts) ⊎ (i ≡ length n.facts)
    node_cases i h =
        let l = ltb-true i (length (n.facts ++ f ∷ [])) h in
        let e = length_push n.facts f in
        elim (cases_lt i (length n.facts)) [ inl a ↦ inl a | inr b ↦ inr (omega arith) ]

    with_node-below : (i : ℕ) → nat_lt i (length (n.facts ++ f ∷ [])) ≡ true
        → All (λ p. (nat_lt p (length (n.facts ++ f ∷ [])) ≡ true) × (p < i)) (map (λ p. p.0) (get_or (n.parents ++ ids ∷ []) i []))
    with_node-below i h =
        let longer = length_push n.facts f in
        elim (node_cases i h) [
          | inl a ↦ subst (λ xs. All (λ p. (nat_lt p (length (n.facts ++ f ∷ [])) ≡ true) × (p < i)) (map (λ p. p.0) xs)) (sym (old-parents i a))
              (All-weaker (λ p. (nat_lt p (length n.facts) ≡ true) × (p < i)) (λ p. (nat_lt p (length (n.facts ++ f ∷ [])) ≡ true) × (p < i))
              (λ p w. (lt-ltb p (length (n.facts ++ f ∷ [])) (let l = ltb-true p (length n.facts) w.0 in omega arith), w.1))
              (map (λ p. p.0) (get_or n.parents i [])) (is.flow.below i (lt-ltb i (length n.facts) a)))
          | inr e ↦ subst (λ xs. All (λ p. (nat_lt p (length (n.facts ++ f ∷ [])) ≡ true) × (p < i)) (map (λ p. p.0) xs)) (sym (ap (λ j. get_or (n.parents ++ ids ∷ []) j []) e ∙ new-parents))
              (numbers-all (λ p. (nat_lt p (length (n.facts ++ f ∷ [])) ≡ true) × (p < i)) ids
              (All-weaker (λ p. p.0 < length n.facts) (λ p. (nat_lt p.0 (length (n.facts ++ f ∷ [])) ≡ true) × (p.0 < i))
              (λ p w. (lt-ltb p.0 (length (n.facts ++ f ∷ [])) (omega arith), omega arith)) ids within))
        ]

    with_node-flow : IsFlow (node_flow (with_node n f kind ids))
    with_node-flow = record {
      same = is.flow.same;
      below = with_node-below;
      chosen = λ i h k. elim (node_cases i h) [
        | inl a ↦ subst (λ xs. 0 < length (map (λ p. p.0) xs)) (sym (old-parents i a)) (is.flow.chosen i (lt-ltb i (length n.facts) a) (sym (old-kind i a) ∙ k))
        | inr e ↦ subst (λ xs. 0 < length (map (λ p. p.0) xs)) (sym (ap (λ j. get_or (n.parents ++ ids ∷ []) j []) e ∙ new-parents))
            (let some : 0 < length ids = subst (λ v. HasShape v ids) (sym new-kind ∙ sym (ap (λ j. get_or (n.kinds ++ kind ∷ []) j Every) e) ∙ k) shape in
            omega (arith, length-map ids (λ p. p.0)))
      ];
      bare = λ i m h k. elim (node_cases i h) [
        | inl a ↦ ap (map (λ p. p.0)) (old-parents i a) ∙ is.flow.bare i m (lt-ltb i (length n.facts) a) (sym (old-kind i a) ∙ k)
        | inr e ↦ ap (map (λ p. p.0)) (ap (λ j. get_or (n.parents ++ ids ∷ []) j []) e ∙ new-parents)
            ∙ ap (map (λ p. p.0)) (let none : ids ≡ [] = subst (λ v. HasShape v ids) (sym new-kind ∙ sym (ap (λ j. get_or (n.kinds ++ kind ∷ []) j Every) e) ∙ k) shape in none)
      ];
    }

    -- a graph that has room for one more node stays a graph with it
    pub IsGraph-with_node : length n.facts < n.limit → IsGraph (with_node n f kind ids)
    IsGraph-with_node room = record {
      kinds = length_push n.kinds kind ∙ ap (λ m. m + 1) is.kinds ∙ sym (length_push n.facts f);
      parents = length_push n.parents ids ∙ ap (λ m. m + 1) is.parents ∙ sym (length_push n.facts f);
      flow = with_node-flow;
      fits = omega (arith, length_push n.facts f);
      numbered = is.numbered;
    }

    -- and each node stays of its fact, where the new one is
    pub Mirrors-with_node : (g : Flow F) → g.holds f ≡ true → kind ≡ g.kind f → AreNodesOf n ids (g.parents f) → Mirrors g n → Mirrors g (with_node n f kind ids)
    Mirrors-with_node g holds is-kind are m = record { each = λ i h at. elim (slice_get-push_cases n.facts f i h at) [ inl a ↦ old i h a (m.each i h a) | inr b ↦ new i h b.0 b.1 ] }
      where
        old : (i : ℕ) (h : F) → slice_get n.facts i ≡ Some h → IsNodeOf g n i h → IsNodeOf g (with_node n f kind ids) i h
        old i h a w =
            let l = slice_get_within n.facts i h a in
            record {
              holds = w.holds;
              kind = old-kind i l ∙ w.kind;
              parents = ap (map (λ p. slice_get (n.facts ++ f ∷ []) p.0)) (old-parents i l) ∙ nodes_of-more n.facts (f ∷ []) (get_or n.parents i []) (g.parents h) w.parents;
            }

        new : (i : ℕ) (h : F) → i ≡ length n.facts → f ≡ h → IsNodeOf g (with_node n f kind ids) i h
        new i h e s = subst (λ x. IsNodeOf g (with_node n f kind ids) i x) s (subst (λ j. IsNodeOf g (with_node n f kind ids) j f) (sym e) (record {
          holds = holds;
          kind = new-kind ∙ is-kind;
          parents = ap (map (λ p. slice_get (n.facts ++ f ∷ []) p.0)) new-parents ∙ nodes_of-more n.facts (f ∷ []) ids (g.parents f) are;
        }))

  -- the first nodes of a graph are a graph
  pub IsGraph-first_nodes : (n : Nodes F) → IsGraph n → (len : ℕ) → IsGraph (first_nodes len n)
  IsGraph-first_nodes n is len = record {
    kinds = length-take len n.kinds ∙ ap (min len) is.kinds ∙ sym (length-take len n.facts);
    parents = length-take len n.parents ∙ ap (min len) is.parents ∙ sym (length-take len n.facts);
    flow = record {
      same = is.flow.same;
      below = λ i h. subst (λ xs. All (λ p. (nat_lt p (length (take len n.facts)) ≡ true) × (p < i)) (map (λ p. p.0) xs)) (sym (get_or-take len n.parents i [] (early i h).0))
          (All-weaker (λ p. (nat_lt p (length n.facts) ≡ true) × (p < i)) (λ p. (nat_lt p (length (take len n.facts)) ≡ true) × (p < i))
          (λ p w. (
            lt-ltb p (length (take len n.facts))
                (let l : p < length n.facts = ltb-true p (length n.facts) w.0 in
                let s : p < i = w.1 in
                let e : i < len = (early i h).0 in
                let m : length (take len n.facts) ≡ min len (length n.facts) = length-take len n.facts in
                omega arith),
            w.1,
          ))
          (map (λ p. p.0) (get_or n.parents i [])) (is.flow.below i (early i h).1));
      chosen = λ i h k. subst (λ xs. 0 < length (map (λ p. p.0) xs)) (sym (get_or-take len n.parents i [] (early i h).0))
          (is.flow.chosen i (early i h).1 (sym (get_or-take len n.kinds i Every (early i h).0) ∙ k));
      bare = λ i m h k. ap (map (λ p. p.0)) (get_or-take len n.parents i [] (early i h).0)
          ∙ is.flow.bare i m (early i h).1 (sym (get_or-take len n.kinds i Every (early i h).0) ∙ k);
    };
    fits = omega (arith, length-take len n.facts, is.fits);
    numbered = is.numbered;
  }
    where
      early : (i : ℕ) → nat_lt i (length (take len n.facts)) ≡ true → (i < len) × (nat_lt i (length n.facts) ≡ true)
      early i h =
          let l = ltb-true i (length (take len n.facts)) h in
          let m = length-take len n.facts in
          (omega arith, lt-ltb i (length n.facts) (omega arith))

  -- equal parts make equal nodes
  pub same_nodes : {facts facts' : List F} {kinds kinds' : List NodeKind} {parents parents' : List (List NodeId)} (limit : ℕ) → facts ≡ facts' → kinds ≡ kinds' → parents ≡ parents'
      → ◌≡◌ {A = Nodes F} (record { facts = facts; kinds = kinds; parents = parents; limit = limit }) (record { facts = facts'; kinds = kinds'; parents = parents'; limit = limit })
  same_nodes limit a b c = λ i. record { facts = a i; kinds = b i; parents = c i; limit = limit }

-- the place of an element by an exact test
pub numbered-at : {F : Type 0} (eq : F → F → Bool) → ((x y : F) → eq x y ≡ true → x ≡ y) → (xs : List F) (x : F) (i : ℕ) → position (eq x) xs ≡ Some i → slice_get xs i ≡ Some x
numbered-at eq exact xs x i at =
    let r = position-Some (eq x) xs i x at in
    slice_get-get_or xs i x r.0 ∙ ap Some (sym (exact x (get_or xs i x) r.1))
