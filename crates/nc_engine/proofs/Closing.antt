-- Closures of more facts, and the nodes of more facts.
use Rattle.std.proofs.Common.{◌≡◌, ℕ, List, [], ◌++◌, length, map, drop, Some, slice_get, inl, inr, sym, ap, ◌∙◌, subst, arith}
use Rattle.std.proofs.lemmas.List.{map-append, take-append-drop}
use Rattle.std.proofs.lemmas.List.Elements.{Contains-append_left, Contains-append_right, Contains-append_cases}
use Rattle.std.specs.List.{IsDistinct}
use Rattle.nc_graph.specs.Closure.{Reaches, itself, by_parent, IsReachedFrom, IsClosure, ReachesMoreThan}
use Rattle.nc_graph.specs.Flow.{Flow}
use Rattle.nc_graph.specs.Nodes.{Nodes, Extends, AreNodesOf}
use Rattle.nc_graph.specs.declared.node.NodeId.{NodeId}
use Rattle.nc_graph.proofs.NodeLemmas.{nodes_of-more}

module _ {F : Type 0} (g : Flow F) where
  distinct-nil : IsDistinct g.same []
  unfolding IsDistinct
  distinct-nil = tt

  -- nothing is reached from no facts
  pub closure-nil : IsClosure g [] []
  closure-nil = record {
    distinct = distinct-nil;
    exact = λ h. (λ c. absurd (omega (arith, c.1)), λ r. absurd (omega (arith, r.1.1)));
  }

  reaches-on : {f m h : F} → Reaches g f m → Reaches g m h → Reaches g f h
  reaches-on (itself f) w = w
  reaches-on (by_parent f p m c v) w = by_parent f p _ c (reaches-on v w)

  module _ (fs xs : List F) (closure : IsClosure g fs xs) (more : List F) where
    -- from a closure and more facts the same is reached as from what it is the closure of and these
    from-closure : (h : F) → IsReachedFrom g (xs ++ more) h → IsReachedFrom g (fs ++ more) h
    from-closure h r = elim (Contains-append_cases xs more r.0 r.1) [
      | inl old ↦ (let below = (closure.exact r.0).0 old in (below.0, Contains-append_left fs more below.0 below.1, reaches-on below.2 r.2))
      | inr new ↦ (r.0, Contains-append_right fs more r.0 new, r.2)
    ]

    to-closure : (h : F) → IsReachedFrom g (fs ++ more) h → IsReachedFrom g (xs ++ more) h
    to-closure h r = elim (Contains-append_cases fs more r.0 r.1) [
      | inl old ↦ (r.0, Contains-append_left xs more r.0 ((closure.exact r.0).1 (r.0, old, itself r.0)), r.2)
      | inr new ↦ (r.0, Contains-append_right xs more r.0 new, r.2)
    ]

    pub closure-more : (ys : List F) → IsClosure g (xs ++ more) ys → IsClosure g (fs ++ more) ys
    closure-more ys is = record {
      distinct = is.distinct;
      exact = λ h. (λ c. from-closure h ((is.exact h).0 c), λ r. (is.exact h).1 (to-closure h r));
    }

    pub many-from : (n : ℕ) → ReachesMoreThan g n (xs ++ more) → ReachesMoreThan g n (fs ++ more)
    many-from n many = record {
      some = many.some;
      distinct = many.distinct;
      reached = λ k d within. from-closure _ (many.reached k d within);
      more = many.more;
    }

    pub many-to : (n : ℕ) → ReachesMoreThan g n (fs ++ more) → ReachesMoreThan g n (xs ++ more)
    many-to n many = record {
      some = many.some;
      distinct = many.distinct;
      reached = λ k d within. to-closure _ (many.reached k d within);
      more = many.more;
    }

-- ---- nodes

module _ {F : Type 0} where
  -- facts have the same nodes in a graph that extends theirs
  pub nodes-extended : (old new : Nodes F) → Extends old new → (ids : List NodeId) (fs : List F) → AreNodesOf old ids fs → AreNodesOf new ids fs
  nodes-extended old new longer ids fs is =
      let whole : old.facts ++ drop (length old.facts) new.facts ≡ new.facts = ap (λ xs. xs ++ drop (length old.facts) new.facts) (sym longer.facts) ∙ take-append-drop (length old.facts) new.facts in
      subst (λ (xs : List F). map (λ p. slice_get xs p.0) ids ≡ map Some fs) whole (nodes_of-more old.facts (drop (length old.facts) new.facts) ids fs is)

  -- and all facts have the nodes of some and those of the others
  pub nodes-append : (n : Nodes F) (ids more : List NodeId) (fs gs : List F) → AreNodesOf n ids fs → AreNodesOf n more gs → AreNodesOf n (ids ++ more) (fs ++ gs)
  nodes-append n ids more fs gs is are =
      map-append (λ p. slice_get n.facts p.0) ids more ∙ ap (λ xs. xs ++ map (λ p. slice_get n.facts p.0) more) is ∙ ap (λ xs. map Some fs ++ xs) are ∙ sym (map-append Some fs gs)
