-- The nodes that a walk keeps, as those of the facts that it gathers.
use Rattle.std.proofs.Common.{◌≡◌, ℕ, ◌+◌, ◌-◌, ◌≤◌, List, [], ◌∷◌, ◌++◌, length, map, reverse, take, drop, Some, slice_get, sym, ap, ◌∙◌, subst, arith}
use Rattle.std.proofs.lemmas.List.{reverse-reverse, map-append, length-append, length-map, length-reverse, take-map, drop-map, take_at, drop_at}
use Rattle.nc_graph.specs.declared.node.NodeId.{NodeId}
use Rattle.nc_graph.specs.Tasks.{last_of, before_last}
use Rattle.nc_graph.proofs.StackLemmas.{reverse-map}
use Rattle.nc_graph.proofs.NodeLemmas.{nodes_of-length, nodes_of-more, slice_get-last}

module _ {F : Type 0} (facts : List F) where
  -- the nodes of ids have the facts of fs
  abbrev pub Are : List NodeId → List F → Type 0
  Are ids fs = map (λ p. slice_get facts p.0) ids ≡ map Some fs

  pub Are-reverse : (ids : List NodeId) (fs : List F) → Are ids fs → Are (reverse ids) (reverse fs)
  Are-reverse ids fs h = sym (reverse-map (λ p. slice_get facts p.0) ids) ∙ ap reverse h ∙ reverse-map Some fs

  pub Are-turned : (ids : List NodeId) (fs : List F) → Are ids (reverse fs) → Are (reverse ids) fs
  Are-turned ids fs h = subst (Are (reverse ids)) (reverse-reverse fs) (Are-reverse ids (reverse fs) h)

  pub Are-more : (f : F) (ids : List NodeId) (fs : List F) (new : NodeId) → Are ids fs → slice_get facts new.0 ≡ Some f → Are (ids ++ new ∷ []) (fs ++ f ∷ [])
  Are-more f ids fs new h at =
      map-append (λ p. slice_get facts p.0) ids (new ∷ []) ∙ (λ i. h i ++ at i ∷ []) ∙ sym (map-append Some fs (f ∷ []))

  module _ (ids : List NodeId) (others ps : List F) (count : ℕ) (are : Are ids (others ++ reverse ps)) (same : count ≡ length ps) where
    as_many : length ids ≡ length others + count
    as_many =
        let a = nodes_of-length facts ids (others ++ reverse ps) are in
        let b = length-append others (reverse ps) in
        let c = length-reverse ps in
        omega arith

    pub parents_enough : count ≤ length ids
    parents_enough = omega (arith, as_many)

    at_others : length (map Some others) ≡ length ids - count
    at_others = let a = length-map others Some in let b = as_many in omega arith

    -- the last nodes are those of the parents
    pub last-are : Are (last_of count ids) ps
    last-are = Are-turned (drop (length ids - count) ids) ps
        (sym (drop-map (λ p. slice_get facts p.0) (length ids - count) ids)
        ∙ ap (drop (length ids - count)) (are ∙ map-append Some others (reverse ps))
        ∙ drop_at (map Some others) (map Some (reverse ps)) (length ids - count) at_others)

    -- and those before them are those of the others
    pub before-are : Are (before_last count ids) others
    before-are =
        sym (take-map (λ p. slice_get facts p.0) (length ids - count) ids)
        ∙ ap (take (length ids - count)) (are ∙ map-append Some others (reverse ps))
        ∙ take_at (map Some others) (map Some (reverse ps)) (length ids - count) at_others

  -- with the new node in place of the parents, in a graph with one more
  pub placed-are : (f : F) (ids : List NodeId) (others : List F) → Are ids others → map (λ p. slice_get (facts ++ f ∷ []) p.0) (ids ++ record { 0 = length facts } ∷ []) ≡ map Some (others ++ f ∷ [])
  placed-are f ids others are =
      map-append (λ p. slice_get (facts ++ f ∷ []) p.0) ids (record { 0 = length facts } ∷ [])
      ∙ (λ i. nodes_of-more facts (f ∷ []) ids others are i ++ slice_get-last facts f i ∷ [])
      ∙ sym (map-append Some others (f ∷ []))
